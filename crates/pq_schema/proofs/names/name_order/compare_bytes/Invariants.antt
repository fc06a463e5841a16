use Rattle.std.proofs.Common.{◌≡◌, length}
use Rattle.pq_schema.specs.aux.NameParts.{name_order}
use Rattle.pq_schema.proofs.names.name_order.compare_bytes.Given as goal

-- the bytes that are left compare as the whole
abbrev pub invariant-bytes : goal.invariant-bytes
invariant-bytes l = name_order l.initial.a l.initial.b ≡ name_order l.a l.b

abbrev pub decreases-bytes : goal.decreases-bytes
decreases-bytes l = length l.a
