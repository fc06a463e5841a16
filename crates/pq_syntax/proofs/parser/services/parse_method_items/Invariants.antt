use Rattle.std.proofs.Common.{length}
use Rattle.pq_syntax.specs.Grammar.{method_item}
use Rattle.pq_syntax.specs.aux.Steps.{Adding}
use Rattle.pq_syntax.specs.Tree.{method_item_nodes}
use Rattle.pq_syntax.proofs.parser.services.parse_method_items.Given as goal

abbrev pub invariant-items : goal.invariant-items
invariant-items l = Adding l.context.text.now (method_item l.context.brackets) (method_item_nodes l.depth) l.tokens l.rest l.initial.nodes.items l.nodes.items

abbrev pub decreases-items : goal.decreases-items
decreases-items l = length l.rest
