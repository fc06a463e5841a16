use Rattle.std.proofs.Common.{length}
use Rattle.pq_syntax.specs.Grammar.{service_item}
use Rattle.pq_syntax.specs.aux.Steps.{Adding}
use Rattle.pq_syntax.specs.Tree.{service_item_nodes}
use Rattle.pq_syntax.proofs.parser.services.parse_service_items.Given as goal

abbrev pub invariant-items : goal.invariant-items
invariant-items l = Adding l.context.text.now (service_item l.context.brackets) (service_item_nodes l.depth) l.tokens l.rest l.initial.nodes.items l.nodes.items

abbrev pub decreases-items : goal.decreases-items
decreases-items l = length l.rest
