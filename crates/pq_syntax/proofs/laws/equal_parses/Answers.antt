use Rattle.pq_syntax.proofs.Equality.{parsed}
use Rattle.pq_syntax.proofs.laws.equal_parses.Goals as goal

pub returns-clause-equal_are_same : goal.returns-clause-equal_are_same
returns-clause-equal_are_same c a b = (parsed a b).0

pub returns-clause-same_are_equal : goal.returns-clause-same_are_equal
returns-clause-same_are_equal c a b = (parsed a b).1
