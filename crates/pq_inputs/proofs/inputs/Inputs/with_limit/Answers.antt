use Rattle.std.proofs.Common.{◌≡◌, arith, List, [], ◌∷◌, ◌++◌, ◌∙◌, ap, ap₂, refl}
use Rattle.pq_inputs.specs.Sources.{Sources}
use Rattle.pq_inputs.specs.aux.Kept.{sources_of}
use Rattle.pq_inputs.proofs.Soundness.{kept_new}
use Rattle.pq_inputs.proofs.inputs.Inputs.with_limit.Goals as goal

-- the history is that of no files
pub invariant_of-result : goal.invariant_of-result
unfolding sources_of
invariant_of-result c =
    let history : c.push.new.self.items ≡ [] ∷ [] = c.in_ok-push.ensures.items ∙ ap₂ (λ (h : List Sources) (s : Sources). h ++ s ∷ []) c.new-history.ensures.items (c.of.ensures ∙ ap sources_of c.new-files.ensures) in
    rw (c.new-files.ensures, history) (kept_new _ c.new.result (omega arith) c.new.ensures)

pub returns : goal.returns
unfolding sources_of
returns c =
    let history : c.push.new.self.items ≡ [] ∷ [] = c.in_ok-push.ensures.items ∙ ap₂ (λ (h : List Sources) (s : Sources). h ++ s ∷ []) c.new-history.ensures.items (c.of.ensures ∙ ap sources_of c.new-files.ensures) in
    rw (c.new-files.ensures, history, c.min.ensures) refl
