use Rattle.pq_rules.specs.Turns.{over}
use Rattle.pq_rules.specs.aux.AnswerTable.{finished}
use Rattle.pq_rules.specs.aux.Evaluator.{Holds, weight}
use Rattle.pq_rules.proofs.scratch.from_scratch.Given as goal

abbrev pub invariant-steps : goal.invariant-steps
invariant-steps g l = Holds g.R.Key.Ord.cmp (g.R.Rules.machine l.rules) (g.R.Rules.reach l.rules) l.inputs.files l.key l.found l.stack.items

abbrev pub decreases-steps : goal.decreases-steps
decreases-steps g l = weight (over g.R.Key.Ord.cmp (g.R.Rules.machine l.rules) l.inputs.files) (g.R.Rules.reach l.rules l.inputs.files l.key) (finished l.found) l.stack.items
