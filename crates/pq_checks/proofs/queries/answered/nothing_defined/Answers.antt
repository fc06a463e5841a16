use Rattle.std.proofs.Common.{◌∙◌}
use Rattle.std.proofs.lemmas.Result.{IfOk-weaker}
use Rattle.pq_schema.proofs.Gathering.{defs_of_nothing}
use Rattle.pq_checks.proofs.queries.answered.nothing_defined.Goals as goal

pub returns : goal.returns
returns c = record { none = IfOk-weaker c.new.result _ _ (λ d e. e ∙ c.in_ok-defs.ensures.defs ∙ defs_of_nothing) c.new.ensures.value }
