use Rattle.std.proofs.Common.{length}
use Rattle.pq_syntax.specs.Grammar.{◌▸◌, optset}
use Rattle.pq_syntax.specs.Parts.{behind, setting_of}
use Rattle.pq_syntax.specs.Rule.Rule.{Single}
use Rattle.pq_syntax.specs.aux.Steps.{Adding}
use Rattle.pq_syntax.specs.declared.terminal.Terminal.TheVariants.{Comma}
use Rattle.pq_syntax.proofs.parser.options.parse_more_settings.Given as goal

abbrev pub invariant-items : goal.invariant-items
invariant-items l = Adding l.context.text.now (Single Comma ▸ optset l.context.brackets) (behind setting_of) l.tokens l.rest l.initial.settings.items l.settings.items

abbrev pub decreases-items : goal.decreases-items
decreases-items l = length l.rest
