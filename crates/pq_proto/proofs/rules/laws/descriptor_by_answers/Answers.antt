use Rattle.pq_proto.proofs.ByAnswers.{descriptor_given}
use Rattle.pq_proto.proofs.rules.laws.descriptor_by_answers.Goals as goal

pub returns : goal.returns
returns c = record { gives = descriptor_given }
