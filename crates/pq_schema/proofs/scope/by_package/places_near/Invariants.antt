use Rattle.std.proofs.Common.{◌≡◌, ◌⊎◌, ℕ, List, true}
use Rattle.std.specs.List.{Contains}
use Rattle.std.specs.Option.{option_copied}
use Rattle.pq_rules.specs.Relations.{In}
use Rattle.pq_schema.specs.aux.InPackage.{dotted}
use Rattle.pq_schema.specs.aux.Scopes.{chain, is_among, left}
use Rattle.pq_schema.proofs.scope.by_package.places_near.Given as goal

-- the place of a file whose package is one of the scopes is there, or the package is still to be looked up
abbrev pub invariant-scopes : goal.invariant-scopes
invariant-scopes l = (root : List ℕ) (k : ℕ) → is_among root (chain (option_copied l.within)) ≡ true → Contains l.packages (dotted root, k)
    → In k l.near.items ⊎ (is_among root (chain (option_copied l.inner)) ≡ true)

abbrev pub decreases-scopes : goal.decreases-scopes
decreases-scopes l = left (option_copied l.inner)
