use Rattle.std.proofs.Common.{◌≤◌, length}
use Rattle.pq_schema.proofs.names.name_order.before_common_end.Given as goal

abbrev pub invariant-halves : goal.invariant-halves
invariant-halves l = l.count ≤ length l.piece
