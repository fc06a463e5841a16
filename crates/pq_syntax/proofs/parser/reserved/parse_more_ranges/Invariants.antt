use Rattle.std.proofs.Common.{length}
use Rattle.pq_syntax.specs.Grammar.{◌▸◌, range}
use Rattle.pq_syntax.specs.Parts.{behind, range_of}
use Rattle.pq_syntax.specs.Rule.Rule.{Single}
use Rattle.pq_syntax.specs.aux.Steps.{Adding}
use Rattle.pq_syntax.specs.declared.terminal.Terminal.TheVariants.{Comma}
use Rattle.pq_syntax.proofs.parser.reserved.parse_more_ranges.Given as goal

abbrev pub invariant-items : goal.invariant-items
invariant-items l = Adding l.text (Single Comma ▸ range l.signs) (behind range_of) l.tokens l.rest l.initial.ranges.items l.ranges.items

abbrev pub decreases-items : goal.decreases-items
decreases-items l = length l.rest
