use Rattle.std.proofs.Common.{[], length}
use Rattle.pq_syntax.specs.Rule.Rule.{Single}
use Rattle.pq_syntax.specs.aux.Steps.{Adding}
use Rattle.pq_syntax.specs.declared.terminal.Terminal.TheVariants.{AnyText}
use Rattle.pq_syntax.proofs.Steps.{nothing}
use Rattle.pq_syntax.proofs.parser.names.skip_strings.Given as goal

abbrev pub invariant-loop-rest : goal.invariant-loop-rest
invariant-loop-rest l = Adding l.text (Single AnyText) nothing l.initial.rest l.rest [] []

abbrev pub decreases-loop-rest : goal.decreases-loop-rest
decreases-loop-rest l = length l.rest
