use Rattle.pq_proto.proofs.KeyNumbers.{keys_order}
use Rattle.pq_proto.proofs.rules.laws.keys_in_order.Goals as goal

pub returns : goal.returns
returns c = keys_order
