use Rattle.std.proofs.Common.{length}
use Rattle.pq_syntax.specs.Grammar.{◌▸◌, optpart}
use Rattle.pq_syntax.specs.Parts.{behind, part_of}
use Rattle.pq_syntax.specs.Rule.Rule.{Single}
use Rattle.pq_syntax.specs.aux.Steps.{Adding}
use Rattle.pq_syntax.specs.declared.terminal.Terminal.TheVariants.{Dot}
use Rattle.pq_syntax.proofs.parser.options.parse_more_parts.Given as goal

abbrev pub invariant-items : goal.invariant-items
invariant-items l = Adding l.context.text.now (Single Dot ▸ optpart) (behind part_of) l.tokens l.rest l.initial.parts.items l.parts.items

abbrev pub decreases-items : goal.decreases-items
decreases-items l = length l.rest
