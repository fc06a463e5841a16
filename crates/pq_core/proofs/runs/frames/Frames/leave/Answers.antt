use Rattle.pq_core.proofs.Claiming.{left_keys, released_others, released_wait}
use Rattle.pq_core.proofs.runs.frames.Frames.leave.Goals as goal

pub returns-clause-claimed : goal.returns-clause-claimed
returns-clause-claimed g c =
    left_keys c.args.id c.args.claims.now c.release.new.self c.release.result c.args.self.now.stack c.lower.new.self.stack c.lower.new.self.top c.requires.claimed
    c.release.ensures.released c.lower.ensures.lowered

pub returns-clause-wait : goal.returns-clause-wait
returns-clause-wait g c k w = released_wait c.args.id c.args.claims.now c.release.new.self c.release.result k c.release.ensures.released w

pub returns-clause-others : goal.returns-clause-others
returns-clause-others g c = released_others c.args.id c.args.claims.now c.release.new.self c.release.result c.release.ensures.released
