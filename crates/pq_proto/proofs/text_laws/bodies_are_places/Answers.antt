use Rattle.pq_proto.proofs.PlacedBodies.{bodies_placed}
use Rattle.pq_proto.proofs.TreeDepths.{tree_nests}
use Rattle.pq_proto.proofs.text_laws.bodies_are_places.Goals as goal

pub returns : goal.returns
returns c = λ text nodes tree. bodies_placed nodes (tree_nests text nodes tree)
