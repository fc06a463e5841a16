use Rattle.pq_proto.proofs.SizeSteps.{SizedTo}
use Rattle.pq_proto.proofs.bodies.sizes_of.Given as goal

abbrev pub invariant-nodes : goal.invariant-nodes
invariant-nodes l = SizedTo l.index l.nodes l.sizes.items

abbrev pub decreases-nodes : goal.decreases-nodes
decreases-nodes l = l.index
