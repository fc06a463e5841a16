use Rattle.std.proofs.Common.{◌≡◌, map}
use Rattle.pq_play.specs.aux.Seats.{seat_accepted, seat_taken}
use Rattle.pq_play.proofs.run.lists_of.Given as goal

abbrev pub invariant-seats : goal.invariant-seats
invariant-seats g l = (map (λ v. v.items) l.accepted.items ≡ map seat_accepted l.yielded) × (map (λ v. v.items) l.taken.items ≡ map seat_taken l.yielded)
