use Rattle.std.proofs.Common.{length}
use Rattle.pq_syntax.specs.Grammar.{enum_item}
use Rattle.pq_syntax.specs.aux.Steps.{Adding}
use Rattle.pq_syntax.specs.Tree.{enum_item_nodes}
use Rattle.pq_syntax.proofs.parser.enums.parse_enum_items.Given as goal

abbrev pub invariant-items : goal.invariant-items
invariant-items l = Adding l.context.text.now (enum_item l.context.brackets) (enum_item_nodes l.depth) l.tokens l.rest l.initial.nodes.items l.nodes.items

abbrev pub decreases-items : goal.decreases-items
decreases-items l = length l.rest
