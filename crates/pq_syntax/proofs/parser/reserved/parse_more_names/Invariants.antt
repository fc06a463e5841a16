use Rattle.std.proofs.Common.{length}
use Rattle.pq_syntax.specs.Grammar.{◌▸◌}
use Rattle.pq_syntax.specs.Parts.{behind, strings_of}
use Rattle.pq_syntax.specs.Rule.Rule.{Single}
use Rattle.pq_syntax.specs.aux.Steps.{Adding}
use Rattle.pq_syntax.specs.declared.terminal.Terminal.TheVariants.{Comma, AnyText}
use Rattle.pq_syntax.proofs.parser.reserved.parse_more_names.Given as goal

abbrev pub invariant-items : goal.invariant-items
invariant-items l = Adding l.context.text.now (Single Comma ▸ Single AnyText) (behind strings_of) l.tokens l.rest l.initial.names.items l.names.items

abbrev pub decreases-items : goal.decreases-items
decreases-items l = length l.rest
