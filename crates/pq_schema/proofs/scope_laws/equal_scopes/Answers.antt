use Rattle.pq_schema.specs.aux.SameScopes.{lists}
use Rattle.pq_schema.proofs.scope_laws.equal_scopes.Goals as goal

pub returns-clause-equal_are_same : goal.returns-clause-equal_are_same
returns-clause-equal_are_same c a b = (lists a b).0

pub returns-clause-same_are_equal : goal.returns-clause-same_are_equal
returns-clause-same_are_equal c a b = (lists a b).1
