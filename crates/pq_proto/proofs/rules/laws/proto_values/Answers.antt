use Rattle.pq_proto.proofs.RuleMeaning.{proto_means}
use Rattle.pq_proto.proofs.rules.laws.proto_values.Goals as goal

pub returns : goal.returns
returns c = record { means = proto_means }
