use Rattle.std.proofs.Common.{ℕ, ◌<◌, get_or, drop, []}
use Rattle.pq_rules.specs.Relations.{In}
use Rattle.pq_schema.proofs.scope.by_package.add_places.Given as goal

abbrev pub invariant-entries : goal.invariant-entries
invariant-entries l = record {
  kept : (k : ℕ) → In k l.fn.near.items → In k l.near.items;
  placed : (j : ℕ) → j < l.entry-index → In (get_or (drop l.first l.packages) j ([], 0)).1 l.near.items;
}
