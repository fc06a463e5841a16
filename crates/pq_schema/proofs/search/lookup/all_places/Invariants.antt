use Rattle.std.proofs.Common.{ℕ, ◌<◌}
use Rattle.pq_rules.specs.Relations.{In}
use Rattle.pq_schema.proofs.search.lookup.all_places.Given as goal

-- the numbers so far are there
abbrev pub invariant-places : goal.invariant-places
invariant-places l = (k : ℕ) → k < l.place → In k l.all.items
