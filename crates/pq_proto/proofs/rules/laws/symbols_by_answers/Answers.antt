use Rattle.pq_proto.proofs.ByAnswers.{symbols_given}
use Rattle.pq_proto.proofs.rules.laws.symbols_by_answers.Goals as goal

pub returns : goal.returns
returns c = record { gives = symbols_given }
