use Rattle.pq_hall.proofs.seats.Seat.+release.Given as goal

abbrev pub decreases-release : goal.decreases-release
decreases-release g l = l.left
