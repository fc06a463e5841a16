use Rattle.pq_schema.proofs.ByAnswers.{defs_given}
use Rattle.pq_schema.proofs.laws.defs_by_answers.Goals as goal

pub returns : goal.returns
returns g c = record { gives = defs_given g.S.LinkKeys.items g.S.LinkKeys.itemed }
