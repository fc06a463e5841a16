use Rattle.pq_schema.proofs.ByAnswers.{resolved_given}
use Rattle.pq_schema.proofs.laws.resolved_by_answers.Goals as goal

pub returns : goal.returns
returns g c = record { gives = resolved_given g.S.SchemaKeys.scope g.S.LinkKeys.items g.S.SchemaKeys.scoped g.S.LinkKeys.itemed }
