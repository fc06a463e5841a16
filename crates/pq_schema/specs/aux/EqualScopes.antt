-- Auxiliary: `==` of scopes, as a function. The law `equal_scopes` ties it to equality.
use Rattle.std.specs.Prelude.{Bool}
use Rattle.pq_schema.specs.ScopeContents.{Scope}
use Rattle.pq_schema.specs.contracts.scope.scope.ScopePartialEq.TheImpl as of_scopes

-- `same_scopes a b` is `a == b` of two scopes
abbrev pub same_scopes : Scope → Scope → Bool
same_scopes = of_scopes.ghosts.eq
