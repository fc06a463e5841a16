use Rattle.std.proofs.Common.{◌≡◌, length}
use Rattle.pq_schema.specs.aux.NameParts.{name_order}
use Rattle.pq_schema.proofs.names.name_order.compare.Given as goal

-- the bytes that are left compare as the whole
abbrev pub invariant-pieces : goal.invariant-pieces
invariant-pieces l = name_order l.initial.a l.initial.b ≡ name_order l.a l.b

abbrev pub decreases-pieces : goal.decreases-pieces
decreases-pieces l = length l.a
