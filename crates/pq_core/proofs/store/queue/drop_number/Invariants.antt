use Rattle.std.proofs.Common.{◌≡◌, take, drop}
use Rattle.std.specs.Prelude.{filter}
use Rattle.std.specs.VecDeque.{deque_len}
use Rattle.pq_core.specs.aux.Queue.{is_other_seat}
use Rattle.pq_core.specs.aux.Turns.{seats_of, clients}
use Rattle.pq_core.proofs.store.queue.drop_number.Given as goal

abbrev pub invariant-loop-place : goal.invariant-loop-place
invariant-loop-place l =
    (deque_len l.turns ≡ deque_len l.initial.turns)
    × (clients l.turns.items ≡ clients l.initial.turns.items)
    × (drop l.place l.turns.items ≡ drop l.place l.initial.turns.items)
    × (seats_of (take l.place l.turns.items) ≡ filter (λ seat. is_other_seat l.client l.number seat) (seats_of (take l.place l.initial.turns.items)))
