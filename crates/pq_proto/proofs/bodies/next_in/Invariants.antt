use Rattle.pq_proto.proofs.BodySteps.{SkippedTo}
use Rattle.pq_proto.proofs.bodies.next_in.Given as goal

abbrev pub invariant-nodes : goal.invariant-nodes
invariant-nodes l = SkippedTo l.depth l.nodes l.index
