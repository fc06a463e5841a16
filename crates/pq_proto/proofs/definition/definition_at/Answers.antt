use Rattle.std.proofs.Common.{◌∙◌}
use Rattle.std.proofs.lemmas.Result.{IfOk-weaker}
use Rattle.pq_proto.proofs.definition.definition_at.Goals as goal

pub returns : goal.returns
returns c = IfOk-weaker c.first_at.result _ _ (λ _ h. h ∙ c.near.ensures.same) c.first_at.ensures
