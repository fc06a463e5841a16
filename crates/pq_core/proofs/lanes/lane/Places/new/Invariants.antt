use Rattle.std.proofs.Common.{◌≡◌, ◌-◌, ◌≤◌, replicate, None}
use Rattle.std.specs.VecDeque.{deque_len, deque_capacity}
use Rattle.pq_core.specs.Moves.{window}
use Rattle.pq_core.proofs.lanes.lane.Places.new.Given as goal

abbrev pub invariant-places : goal.invariant-places
invariant-places g l = (l.places.items ≡ replicate (deque_len l.places) None) × (deque_len l.places ≤ window) × (window ≤ deque_capacity l.places)

abbrev pub decreases-places : goal.decreases-places
decreases-places g l = window - deque_len l.places
