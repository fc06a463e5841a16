use Rattle.std.proofs.Common.{length, ◌-◌}
use Rattle.pq_proto.proofs.SizeSteps.{HoppedTo}
use Rattle.pq_proto.proofs.bodies.size_at.Given as goal

abbrev pub invariant-nodes : goal.invariant-nodes
invariant-nodes l = HoppedTo l.depth l.nodes l.index l.next

abbrev pub decreases-nodes : goal.decreases-nodes
decreases-nodes l = length l.nodes - l.next
