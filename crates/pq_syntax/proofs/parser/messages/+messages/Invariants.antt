use Rattle.std.proofs.Common.{length, ◌+◌, ◌*◌}
use Rattle.pq_syntax.specs.Grammar.{item}
use Rattle.pq_syntax.specs.aux.Steps.{Adding}
use Rattle.pq_syntax.specs.Tree.{item_nodes}
use Rattle.pq_syntax.proofs.parser.messages.+messages.Given as goal

abbrev pub decreases-parse_item : goal.decreases-parse_item
decreases-parse_item l = 3 * l.levels

abbrev pub decreases-parse_items : goal.decreases-parse_items
decreases-parse_items l = 3 * l.levels + 1

abbrev pub decreases-parse_message : goal.decreases-parse_message
decreases-parse_message l = 3 * l.levels + 2

abbrev pub invariant-parse_items-items : goal.invariant-parse_items-items
invariant-parse_items-items l = Adding l.context.text.now (item l.context.brackets l.levels) (item_nodes l.levels l.depth) l.tokens l.rest l.initial.nodes.items l.nodes.items

abbrev pub decreases-parse_items-items : goal.decreases-parse_items-items
decreases-parse_items-items l = length l.rest
