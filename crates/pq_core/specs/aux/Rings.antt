-- Auxiliary: the frames of the keys of a ring, in the runs that hold these keys.
use Rattle.std.specs.Prelude.{ℕ, ◌≡◌, ◌⊎◌, List, ◌∷◌, ◌++◌, take, Some, None}
use Rattle.pq_rules.specs.Relations.{In}
use Rattle.pq_memo.specs.declared.stepping.frame.Frame.{Frame}
use Rattle.pq_claims.specs.Claims.{Hold, Holds, hold_of}
use Rattle.pq_core.specs.declared.runs.frames.Top.{Top}
use Rattle.pq_core.specs.declared.runs.frames.Top.TheVariants.{At}
use Rattle.pq_core.specs.declared.store.rising.Place.{Place}
use Rattle.pq_core.specs.aux.Rising.{found}
use Rattle.pq_core.specs.aux.Runs.{AreClaimed, IsLowered, IsSameRun, OthersHold, RunView, run_keys}

-- `IsFrameOf stack top f` is that `f` is one of the frames of a run
abbrev pub IsFrameOf : {K P : Type 0} → List (Frame K P) → Top K P → Frame K P → Type 0
IsFrameOf stack top f = In f stack ⊎ (top ≡ At f)

-- `HasFrame runs f` is that `f` is a frame of one of `runs`
abbrev pub HasFrame : {K P : Type 0} → List (Place (RunView K P)) → Frame K P → Type 0
HasFrame {K} {P} runs f = (r : ℕ) × (run : RunView K P) × (found runs r ≡ Some run) × IsFrameOf run.stack run.top f

-- `LeavesRun run key stack left now before after` is that of the frames of `run`, of which those below
-- the top were `stack`, the last have left, that of `key` among them; that `left` and `now` are the
-- others; and that `run` holds their keys and waits for none
pub record LeavesRun {K P : Type 0} (run : ℕ) (key : K) (stack left : List (Frame K P)) (now : Top K P) (before after : List (ℕ × Hold K)) : Type 0 where
  pub count : ℕ
  pub lowered : IsLowered (take count stack) left now
  pub keys : (hold_of after run).keys ≡ run_keys left now
  pub gone : In key (hold_of after run).keys → ⊥
  pub fewer : (k : K) → In k (hold_of after run).keys → In k (hold_of before run).keys
  pub awake : (hold_of after run).wait ≡ None
  pub others : OthersHold run before after
  -- if the run held `key`, those that left are `key` and those that it claimed after
  pub split : In key (hold_of before run).keys → (more : List K) × ((hold_of before run).keys ≡ (hold_of after run).keys ++ key ∷ more)

-- `IsCut claims was now run` is that of the frames of `run`, whose top was a frame, the last have left,
-- and that it waits for no key; it was `was`, and is `now`
pub record IsCut {K P : Type 0} (claims : List (ℕ × Hold K)) (was now : RunView K P) (run : ℕ) : Type 0 where
  pub same : IsSameRun was now
  pub frame : Frame K P
  pub is_top : was.top ≡ At frame
  pub count : ℕ
  pub lowered : IsLowered (take count was.stack) now.stack now.top
  pub awake : (hold_of claims run).wait ≡ None

-- `KeyLeaves key before after old new` is that no run holds `key` any more: of the frames of the run
-- that held it the last have left, that of `key` among them, and every other run is as it was
pub record KeyLeaves {K P : Type 0} (key : K) (before after : List (ℕ × Hold K)) (old new : List (Place (RunView K P))) : Type 0 where
  pub claimed : AreClaimed after new
  pub gone : (r : ℕ) → Holds after r key → ⊥
  pub fewer : (r : ℕ) (k : K) → Holds after r k → Holds before r k
  pub waits : (r : ℕ) (k : K) → (hold_of after r).wait ≡ Some k → (hold_of before r).wait ≡ Some k
  pub each : (r : ℕ) → (found new r ≡ found old r) ⊎ ((was : RunView K P) × (now : RunView K P) × (found old r ≡ Some was) × (found new r ≡ Some now) × IsCut after was now r)
  -- of the keys of a run none left, or `key` and those that it claimed after
  pub split : (r : ℕ) → ((hold_of after r).keys ≡ (hold_of before r).keys) ⊎ ((more : List K) × ((hold_of before r).keys ≡ (hold_of after r).keys ++ key ∷ more))
