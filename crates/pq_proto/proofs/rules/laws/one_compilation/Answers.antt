use Rattle.pq_proto.proofs.RuleMeaning.{proto_one, proto_some}
use Rattle.pq_proto.proofs.rules.laws.one_compilation.Goals as goal

pub returns : goal.returns
returns c = record { some = proto_some; one = proto_one }
