-- Auxiliary: the rules that runs have begun.
use Rattle.std.specs.Prelude.{ℕ, ◌≡◌, ◌⊎◌, List, Option, Some, None}
use Rattle.pq_rules.specs.Turns.{Machine}
use Rattle.pq_memo.specs.declared.stepping.frame.Frame.{Frame}
use Rattle.pq_memo.specs.declared.table.look.Why.{Why}
use Rattle.pq_memo.specs.Sound.{Memo}
use Rattle.pq_memo.specs.Look.{IsUpToDate}
use Rattle.pq_memo.specs.Table.{HasIn}
use Rattle.pq_memo.specs.Steps.{IsWalking}
use Rattle.pq_core.specs.Works.{WorkView}
use Rattle.pq_core.specs.declared.runs.frames.Pending.{Pending}
use Rattle.pq_core.specs.declared.runs.frames.Top.{Top}
use Rattle.pq_core.specs.declared.runs.frames.Top.TheVariants.{Away}
use Rattle.pq_core.specs.declared.runs.frames.Looked.{Looked}
use Rattle.pq_core.specs.declared.runs.frames.Looked.TheVariants.{Carry, Stepped, Blocked, Ring}
use Rattle.pq_core.specs.declared.store.rising.Place.{Place}
use Rattle.pq_core.specs.aux.Rising.{found}
use Rattle.pq_core.specs.aux.Runs.{RunView}
use Rattle.pq_core.specs.aux.Rings.{IsFrameOf}

-- `IsBegun stack top k` is that a run with these frames has begun the rule of `k`: its frame of `k`
-- does not walk any more, or the rule of `k` is carried out elsewhere
abbrev pub IsBegun : {K P : Type 0} → List (Frame K P) → Top K P → K → Type 0
IsBegun {K} {P} stack top k =
    ((f : Frame K P) × IsFrameOf stack top f × (IsWalking f.stage → ⊥) × (f.key ≡ k)) ⊎ ((p : Pending K) × (top ≡ Away p) × (p.key ≡ k))

-- `IsBegunIn now runs k` is that one of `runs` that was started at the revision `now` has begun the
-- rule of `k`
abbrev pub IsBegunIn : {K P : Type 0} → ℕ → List (Place (RunView K P)) → K → Type 0
IsBegunIn {K} {P} now runs k = (r : ℕ) × (run : RunView K P) × (found runs r ≡ Some run) × (run.started ≡ now) × IsBegun run.stack run.top k

-- `KeepsBegun m now table stack top left new` is that each rule that a run had begun with the frames
-- `stack` and `top` is begun with `left` and `new`, or its key is up to date
abbrev pub KeepsBegun : {K P V : Type 0} → Machine K P V → ℕ → (K → Option (Memo K V)) → List (Frame K P) → Top K P → List (Frame K P) → Top K P → Type 0
KeepsBegun {K} m now table stack top left new = (k : K) → IsBegun stack top k → IsBegun left new k ⊎ IsUpToDate m now (HasIn table) k

-- `IsFirst stack top k why` is that the rule of `k`, if it is started because of a `why`, was not
-- begun before
abbrev pub IsFirst : {K P : Type 0} → List (Frame K P) → Top K P → K → Option (Why K) → Type 0
IsFirst stack top k None = Unit {0}
IsFirst stack top k (Some why) = IsBegun stack top k → ⊥

-- `LooksFirst stack top looked` is this of the work that a look hands out, if it does
abbrev pub LooksFirst : {R K P V : Type 0} → List (Frame K P) → Top K P → Looked (WorkView R K P V) K → Type 0
LooksFirst stack top (Carry work) = IsFirst stack top work.done.key work.why
LooksFirst stack top Stepped = Unit {0}
LooksFirst stack top (Blocked other) = Unit {0}
LooksFirst stack top (Ring ring) = Unit {0}
