-- Auxiliary: `==` of trees and of outcomes, as functions. The laws `equal_trees` and `equal_parses`
-- tie them to equality.
use Rattle.std.specs.Prelude.{Bool, List}
use Rattle.pq_syntax.specs.declared.fault.Parsed.{Parsed}
use Rattle.pq_syntax.specs.declared.tree.Node.{Node}
use Rattle.pq_syntax.specs.contracts.fault.ParsedPartialEq.TheImpl as of_outcomes
use Rattle.pq_syntax.specs.contracts.file.FilePartialEq.TheImpl as of_files

-- `same_trees a b` is `a == b` of two trees with these nodes, as a bound `T: PartialEq` of a generic
-- function sees it.
abbrev pub same_trees : List Node → List Node → Bool
same_trees = of_files.ghosts.eq

-- `same_parses a b` is `a == b` of two outcomes.
abbrev pub same_parses : Parsed → Parsed → Bool
same_parses = of_outcomes.ghosts.eq
