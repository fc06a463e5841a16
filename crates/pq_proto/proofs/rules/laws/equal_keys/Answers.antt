use Rattle.pq_proto.specs.aux.KeyOrder.{key_exact}
use Rattle.pq_proto.proofs.rules.laws.equal_keys.Goals as goal

pub returns : goal.returns
returns c = key_exact
