use Rattle.pq_schema.specs.aux.Fronts.{AreSameEnds}
use Rattle.pq_schema.proofs.names.name_order.end_alike.Given as goal

-- the bytes that were taken are the same in both
abbrev pub invariant-pieces : goal.invariant-pieces
invariant-pieces l = AreSameEnds l.initial.left l.left l.initial.a l.initial.b l.a l.b

abbrev pub decreases-pieces : goal.decreases-pieces
decreases-pieces l = l.left
