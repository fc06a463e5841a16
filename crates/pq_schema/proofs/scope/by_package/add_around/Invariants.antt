use Rattle.std.proofs.Common.{◌≡◌, ℕ, ◌<◌, List, [], Some, get_or, true}
use Rattle.pq_rules.specs.Relations.{In}
use Rattle.pq_schema.specs.aux.InPackage.{dotted}
use Rattle.pq_schema.specs.aux.Scopes.{chain, is_among}
use Rattle.pq_schema.proofs.scope.by_package.add_around.Given as goal

abbrev pub invariant-entries : goal.invariant-entries
invariant-entries l = record {
  kept : (k : ℕ) → In k l.fn.near.items → In k l.near.items;
  placed : (j : ℕ) (root : List ℕ) (k : ℕ) → j < l.at → is_among root (chain (Some l.scope)) ≡ true
      → get_or l.packages j ([], 0) ≡ (dotted root, k) → In k l.near.items;
}
