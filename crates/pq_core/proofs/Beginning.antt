-- The first frame of a run, which is of the key of its request, and the claim of that key.
use Rattle.std.proofs.Common.{◌≡◌, ◌∙◌, ℕ, List, [], ◌∷◌, ◌++◌, Option, sym, ap, subst, inr}
use Rattle.std.specs.declared.cmp.Ordering.{Ordering}
use Rattle.pq_inputs.specs.Sources.{Table}
use Rattle.pq_rules.specs.Turns.{Machine}
use Rattle.pq_memo.specs.declared.stepping.frame.Frame.{Frame}
use Rattle.pq_memo.specs.declared.stepping.frame.Stage.TheVariants.{Walking}
use Rattle.pq_memo.specs.Sound.{Memo}
use Rattle.pq_memo.specs.Table.{HasIn}
use Rattle.pq_memo.specs.Frames.{frame_keys}
use Rattle.pq_core.specs.declared.runs.frames.Top.{Top}
use Rattle.pq_core.specs.declared.runs.frames.Top.TheVariants.{Empty, At}
use Rattle.pq_core.specs.declared.values.request.Request.{Request}
use Rattle.pq_core.specs.declared.values.request.Want.TheVariants.{Demand}
use Rattle.pq_core.specs.aux.Runs.{AreStale, FramesKept, IsStale, run_keys}
use Rattle.pq_core.proofs.Framed.{none_below, walked}
use Rattle.pq_core.proofs.Stepping.{stale_more}

-- a key that is not up to date becomes the top of a run without frames
pub first_kept : {K P V : Type 0} (order : K → K → Ordering) (m : Machine K P V) (inputs : Table) (table : K → Option (Memo K V))
    (stack : List (Frame K P)) (request : Request K) (key : K) → stack ≡ [] → request.want ≡ Demand key
    → IsStale m inputs.revision (HasIn table) request → FramesKept order m inputs table stack (At (record { key = key; stage = Walking 0 }))
first_kept order m inputs table stack request key none wants stale =
    (none_below order m inputs table stack key none, inr (walked order m inputs table key (stale key wants)))

-- a run without frames holds no key
pub none_held : {K P : Type 0} (keys : List K) (stack : List (Frame K P)) (top : Top K P) → stack ≡ [] → top ≡ Empty → keys ≡ run_keys stack top → keys ≡ []
none_held {K} {P} keys stack top none empty e =
    e ∙ (ap (λ (t : Top K P). run_keys stack t) empty ∙ ap (λ (fs : List (Frame K P)). run_keys fs Empty) none)

-- the key that a run without keys claimed is that of its first frame
pub first_held : {K P : Type 0} (before after : List K) (stack : List (Frame K P)) (key : K) → stack ≡ [] → before ≡ [] → after ≡ before ++ key ∷ [] → after ≡ frame_keys stack ++ key ∷ []
first_held {K} {P} before after stack key none empty e =
    e ∙ (ap (λ (ks : List K). ks ++ key ∷ []) empty ∙ sym (ap (λ (fs : List (Frame K P)). frame_keys fs ++ key ∷ []) none))

-- it is not up to date
pub first_stale : {K P V : Type 0} (m : Machine K P V) (now : ℕ) (table : K → Option (Memo K V)) (stack : List (Frame K P)) (request : Request K) (key : K) → stack ≡ []
    → request.want ≡ Demand key → IsStale m now (HasIn table) request → AreStale m now table (frame_keys stack ++ key ∷ [])
first_stale {K} {P} m now table stack request key none wants stale =
    subst (λ (fs : List (Frame K P)). AreStale m now table (frame_keys fs ++ key ∷ [])) (sym none) (stale_more m now table [] key (λ q i. absurd i) (stale key wants))
