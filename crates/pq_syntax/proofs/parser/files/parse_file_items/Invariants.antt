use Rattle.std.proofs.Common.{length}
use Rattle.pq_syntax.specs.Grammar.{file_item}
use Rattle.pq_syntax.specs.aux.Steps.{Adding}
use Rattle.pq_syntax.specs.Tree.{file_item_nodes}
use Rattle.pq_syntax.proofs.parser.files.parse_file_items.Given as goal

abbrev pub invariant-items : goal.invariant-items
invariant-items l = Adding l.context.text.now (file_item l.context.brackets l.levels) (file_item_nodes l.levels) l.tokens l.rest l.initial.nodes.items l.nodes.items

abbrev pub decreases-items : goal.decreases-items
decreases-items l = length l.rest
