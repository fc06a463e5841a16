use Rattle.std.proofs.Common.{refl, inr}
use Rattle.pq_core.proofs.runs.frames.Frames.go_on.Goals as goal

pub returns-clause-frames_kept : goal.returns-clause-frames_kept
returns-clause-frames_kept g c =
    (c.requires.below, inr ((g.R.Rules.machine c.args.memos.now.rules).advance c.args.part c.args.answer, c.requires.came))

pub returns-clause-away : goal.returns-clause-away
returns-clause-away g c = (record { key = c.args.key; reads = c.args.reads }, refl, refl)
