use Rattle.std.proofs.Common.{◌≡◌}
use Rattle.pq_hall.proofs.hall.Hall.carry_long.Given as goal

abbrev pub invariant-loop : goal.invariant-loop
invariant-loop g l =
    (goal.iterator-loop g).can_next l.iterator' × (goal.iterator-loop g).is_finite l.iterator' × (l.change ≡ l.fn.change)
