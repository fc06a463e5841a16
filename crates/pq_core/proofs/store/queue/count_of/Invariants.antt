use Rattle.std.proofs.Common.{◌≡◌, length, take}
use Rattle.pq_core.specs.aux.Turns.{seats_of}
use Rattle.pq_core.proofs.store.queue.count_of.Given as goal

abbrev pub invariant-loop-place : goal.invariant-loop-place
invariant-loop-place l = l.total ≡ length (seats_of (take l.place l.turns.items))
