-- Auxiliary: `==` of lists of statements decides their equality. The lemmas are here, since the
-- laws of `==` cite them.
use Rattle.std.specs.Prelude.{Bool, List}
use Rattle.std.specs.Cmp.{IsPartialEquivalence, IsEquivalence, decided, partial_equiv_from_equiv}
use Rattle.std.specs.Cmp.Lexicographic.{pointwise}
use Rattle.pq_syntax.proofs.Equality.{nodes}
use Rattle.pq_syntax.specs.contracts.tree.NodePartialEq.TheImpl as of_nodes
use Rattle.pq_syntax.specs.declared.tree.Node.{Node}

-- `same_nodes xs ys` is whether the statements `xs` and `ys` are as many, and equal one by one
abbrev pub same_nodes : List Node → List Node → Bool
same_nodes = pointwise of_nodes.ghosts.eq

pub nodes_equiv : IsEquivalence same_nodes
nodes_equiv = decided same_nodes nodes

pub nodes_per : IsPartialEquivalence same_nodes
nodes_per = partial_equiv_from_equiv nodes_equiv
