use Rattle.std.proofs.Common.{◌≡◌}
use Rattle.pq_mail.proofs.ends.GetEnd.get.Given as goal

abbrev pub invariant-loop : goal.invariant-loop
invariant-loop g l =
    (goal.iterator-loop g).can_next l.iterator' × (goal.iterator-loop g).is_finite l.iterator'
    × (l.self.items ≡ l.initial.self.items) × (l.self.table ≡ l.initial.self.table) × (l.self.key ≡ l.initial.self.key)
