use Rattle.pq_claims.specs.Claims.{hold_of}
use Rattle.pq_core.proofs.Claiming.{pushed_held}
use Rattle.pq_core.proofs.Stepping.{entered_idle, entered_looked}
use Rattle.pq_core.proofs.Stepped.{entered_stepped, still_stepped}
use Rattle.pq_core.proofs.runs.frames.Frames.wait.Goals as goal

pub enter-requires : goal.enter-requires
enter-requires g c = record {
  claimed = pushed_held (hold_of c.args.claims.now c.args.id).keys c.args.self.now.stack c.put.new.self c.args.frame c.requires.ready.claimed c.in-Ok.ensures.pushed;
  awake = c.requires.awake;
}

pub returns-in-Ok-clause-stepped : goal.returns-in-Ok-clause-stepped
returns-in-Ok-clause-stepped g c =
    let e = rw c.in-Ok.ensures.pushed at c.enter.ensures.entered in
    entered_stepped g.R.Key.Ord.cmp g.R.Rules.machine c.args.inputs.now c.args.id c.args.memos.now c.args.claims.now c.enter.new.claims c.args.self.now.stack c.enter.new.self.stack c.args.frame
    c.enter.new.self.top c.args.next c.enter.result c.requires.awaits c.requires.needed e c.enter.ensures.claimed c.enter.ensures.others c.requires.ready

pub returns-in-Ok-clause-looked : goal.returns-in-Ok-clause-looked
returns-in-Ok-clause-looked g c =
    let e = rw c.in-Ok.ensures.pushed at c.enter.ensures.entered in
    entered_looked g.R.Key.Ord.cmp g.R.Rules.machine c.args.inputs.now c.args.memos.now c.args.self.now.stack c.args.frame c.args.next c.requires.awaits c.enter.new.claims c.args.id
    c.enter.new.self.stack c.enter.new.self.top c.enter.result e

pub returns-in-Ok-clause-idle : goal.returns-in-Ok-clause-idle
returns-in-Ok-clause-idle g c =
    entered_idle g.R.Key.Ord.cmp c.enter.new.claims c.args.id c.args.next c.enter.result c.put.new.self c.enter.new.self.stack c.enter.new.self.top c.enter.ensures.entered

pub returns-in-Err-clause-stepped : goal.returns-in-Err-clause-stepped
returns-in-Err-clause-stepped g c = rw (c.in-Err.ensures.refused, c.in-Err.ensures.returned) (still_stepped g.R.Key.Ord.cmp g.R.Rules.machine c.args.inputs.now c.args.id _ c.requires.ready)
