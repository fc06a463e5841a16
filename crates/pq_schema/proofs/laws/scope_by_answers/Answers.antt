use Rattle.pq_schema.proofs.ByAnswers.{scope_given}
use Rattle.pq_schema.proofs.laws.scope_by_answers.Goals as goal

pub returns : goal.returns
returns g c = record { gives = scope_given g.S.LinkKeys.linked g.S.SchemaKeys.defs g.S.LinkKeys.links g.S.SchemaKeys.defined }
