use Rattle.std.proofs.Common.{ap}
use Rattle.pq_claims.specs.Claims.{Hold}
use Rattle.pq_core.proofs.Claiming.{set_own}
use Rattle.pq_core.proofs.Stepped.{ended_stepped, marked_stepped, stepped_then}
use Rattle.pq_core.proofs.runs.frames.Frames.advance.Goals as goal

pub step-requires-clause-ready : goal.step-requires-clause-ready
step-requires-clause-ready g c = (ended_stepped g.R.Key.Ord.cmp g.R.Rules.machine c.args.inputs.now c.args.id _ _ c.end_wait.ensures.ended c.requires.ready).ready

pub step-requires-clause-awake : goal.step-requires-clause-awake
step-requires-clause-awake g c = ap (λ (h : Hold g.row.R-Key.Denot). h.wait) (set_own c.args.id c.args.claims.now c.end_wait.new.self _ c.end_wait.ensures.ended)

pub returns-in-Ok-clause-stepped : goal.returns-in-Ok-clause-stepped
returns-in-Ok-clause-stepped g c =
    stepped_then _ _ _ _ _ _ _ (ended_stepped g.R.Key.Ord.cmp g.R.Rules.machine c.args.inputs.now c.args.id _ _ c.end_wait.ensures.ended c.requires.ready) c.step.ensures.stepped

pub returns-in-Err-clause-stepped : goal.returns-in-Err-clause-stepped
returns-in-Err-clause-stepped g c = ended_stepped g.R.Key.Ord.cmp g.R.Rules.machine c.args.inputs.now c.args.id _ _ c.end_wait.ensures.ended c.requires.ready

pub returns-in-Some-clause-stepped : goal.returns-in-Some-clause-stepped
returns-in-Some-clause-stepped g c =
    let first = ended_stepped g.R.Key.Ord.cmp g.R.Rules.machine c.args.inputs.now c.args.id _ _ c.end_wait.ensures.ended c.requires.ready in
    stepped_then _ _ _ _ _ _ _ first
    (marked_stepped g.R.Key.Ord.cmp g.R.Rules.machine c.args.inputs.now c.args.id _ _
    (ap (λ (h : Hold g.row.R-Key.Denot). h.wait) (set_own c.args.id c.args.claims.now c.end_wait.new.self _ c.end_wait.ensures.ended)) c.confirm.ensures first.ready)
