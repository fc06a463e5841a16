use Rattle.pq_lex.proofs.SameLines.{same_lines_decides}
use Rattle.pq_lex.proofs.laws.equal_indexes.Goals as goal

pub returns-clause-equal_are_same : goal.returns-clause-equal_are_same
returns-clause-equal_are_same c a b = (same_lines_decides a b).0

pub returns-clause-same_are_equal : goal.returns-clause-same_are_equal
returns-clause-same_are_equal c a b = (same_lines_decides a b).1
