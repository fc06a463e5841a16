use Rattle.pq_hall.proofs.hall.Hall.+advance.Given as goal

abbrev pub decreases-advance : goal.decreases-advance
decreases-advance g l = l.left
