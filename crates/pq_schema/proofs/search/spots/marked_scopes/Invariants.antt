use Rattle.std.proofs.Common.{◌≡◌, ◌++◌, map}
use Rattle.std.specs.Prelude.{filter}
use Rattle.std.specs.Option.{option_copied}
use Rattle.pq_schema.specs.Resolution.{scopes}
use Rattle.pq_schema.specs.aux.NameParts.{leading}
use Rattle.pq_schema.specs.aux.Scopes.{chain, left}
use Rattle.pq_schema.specs.aux.Spots.{is_kept}
use Rattle.pq_schema.proofs.search.spots.marked_scopes.Given as goal

abbrev pub invariant-scopes : goal.invariant-scopes
invariant-scopes l =
    l.spots.items ++ map leading (filter (is_kept l.marks) (chain (option_copied l.inner))) ≡ map leading (filter (is_kept l.marks) (scopes l.root))

abbrev pub decreases-scopes : goal.decreases-scopes
decreases-scopes l = left (option_copied l.inner)
