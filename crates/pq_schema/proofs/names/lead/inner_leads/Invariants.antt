use Rattle.std.proofs.Common.{◌≡◌, ◌++◌, ℕ, List, map}
use Rattle.std.specs.List.{concat}
use Rattle.std.specs.Option.{option_copied}
use Rattle.pq_schema.specs.Definitions.{qualified}
use Rattle.pq_schema.specs.aux.NameParts.{leading}
use Rattle.pq_schema.specs.aux.Scopes.{before, left}
use Rattle.pq_schema.proofs.names.lead.inner_leads.Given as goal

abbrev pub invariant-scopes : goal.invariant-scopes
invariant-scopes l =
    (root : List ℕ) → concat l.front ≡ leading root
    → l.leads.items ++ map leading (map (qualified root) (before (option_copied l.inner))) ≡ map leading (map (qualified root) (before (option_copied l.next)))

abbrev pub decreases-scopes : goal.decreases-scopes
decreases-scopes l = left (option_copied l.inner)
