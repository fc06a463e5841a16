use Rattle.pq_core.specs.aux.Runs.{HasMarked}
use Rattle.pq_core.proofs.runs.confirming.confirm.Given as goal

abbrev pub invariant-marks : goal.invariant-marks
invariant-marks g l = HasMarked g.R.Key.Ord.cmp g.R.Rules.machine l.inputs l.claims l.fn.memos l.memos
