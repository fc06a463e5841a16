use Rattle.pq_proto.proofs.ByAnswers.{definition_given}
use Rattle.pq_proto.proofs.rules.laws.definition_by_answers.Goals as goal

pub returns : goal.returns
returns c = record { gives = definition_given }
