use Rattle.pq_schema.specs.aux.SameContents.{contents}
use Rattle.pq_schema.proofs.laws.equal_defs.Goals as goal

pub returns-clause-equal_are_same : goal.returns-clause-equal_are_same
returns-clause-equal_are_same c a b = (contents a b).0

pub returns-clause-same_are_equal : goal.returns-clause-same_are_equal
returns-clause-same_are_equal c a b = (contents a b).1
