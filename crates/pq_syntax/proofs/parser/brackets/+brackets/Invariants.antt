use Rattle.std.proofs.Common.{[], length, ◌+◌, ◌*◌}
use Rattle.pq_syntax.specs.Grammar.{nested}
use Rattle.pq_syntax.specs.aux.Steps.{Adding}
use Rattle.pq_syntax.proofs.Steps.{nothing}
use Rattle.pq_syntax.proofs.parser.brackets.+brackets.Given as goal

abbrev pub decreases-skip_nested : goal.decreases-skip_nested
decreases-skip_nested l = 3 * l.levels

abbrev pub decreases-skip_balanced : goal.decreases-skip_balanced
decreases-skip_balanced l = 3 * l.levels + 1

abbrev pub decreases-skip_pair : goal.decreases-skip_pair
decreases-skip_pair l = 3 * l.levels + 2

abbrev pub invariant-skip_balanced-loop-after : goal.invariant-skip_balanced-loop-after
invariant-skip_balanced-loop-after l = Adding l.text (nested l.levels) nothing l.tokens l.rest [] []

abbrev pub decreases-skip_balanced-loop-after : goal.decreases-skip_balanced-loop-after
decreases-skip_balanced-loop-after l = length l.rest
