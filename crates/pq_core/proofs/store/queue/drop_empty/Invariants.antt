use Rattle.std.proofs.Common.{◌≡◌}
use Rattle.std.specs.VecDeque.{deque_len}
use Rattle.pq_core.specs.aux.Turns.{seats_of, AreApart}
use Rattle.pq_core.proofs.store.queue.drop_empty.Given as goal

abbrev pub invariant-turns : goal.invariant-turns
invariant-turns l = (seats_of l.turns.items ≡ seats_of l.initial.turns.items) × (AreApart l.initial.turns.items → AreApart l.turns.items)

abbrev pub decreases-turns : goal.decreases-turns
decreases-turns l = deque_len l.turns
