use Rattle.std.proofs.Common.{◌≡◌, ◌++◌, ℕ, List, [], get_or, length}
use Rattle.pq_schema.specs.declared.scope.scope.FileDefs.{FileDefs}
use Rattle.pq_schema.specs.aux.Asked.{AreAsked}
use Rattle.pq_schema.specs.aux.PackageRange.{IsRangeOf}
use Rattle.pq_schema.proofs.Answered.{AreRight}
use Rattle.pq_schema.proofs.search.asked.open_scopes.Given as goal

-- the scopes so far are open
abbrev pub invariant-scopes : goal.invariant-scopes
invariant-scopes l =
    (length l.asked.items ≡ l.level)
    × ((files : List FileDefs) (more leads : List (List ℕ)) → l.count ≡ length (more ++ leads) → IsRangeOf files l.packages (get_or (more ++ leads) 0 [])
    → AreAsked files leads l.initial.asked.items → AreRight files (more ++ leads) l.asked.items)
