use Rattle.std.proofs.Common.{◌∙◌}
use Rattle.pq_memo.specs.Table.{memo_at}
use Rattle.pq_core.proofs.RingFrames.{waits_all, member_keys}
use Rattle.pq_core.proofs.RingRuns.{ring_frames}
use Rattle.pq_core.proofs.steps.closing.publish_ring.Goals as goal

pub ring_members-requires-clause-waits : goal.ring_members-requires-clause-waits
ring_members-requires-clause-waits g c =
    let w = ring_frames g.R.Key.Ord.cmp (g.R.Rules.machine c.args.memos.now.rules) c.args.inputs.now (memo_at g.R.Key.Ord.cmp c.args.memos.now.places) c.args.claims.now c.args.runs.now.items
    c.claims_are_sound.ensures.sound c.requires.runs_kept c.args._id c.requires.closes.0 c.args.ring.now c.requires.within c.requires.closes.1 c.requires.closes.2 c.requires.closes.3 in
    (w.0, w.2, w.3, waits_all g.R.Key.Ord.cmp (g.R.Rules.machine c.args.memos.now.rules) c.args.inputs.now.history c.args.inputs.now.revision (memo_at g.R.Key.Ord.cmp c.args.memos.now.places) w.0 w.1)

pub publish_members-requires-clause-round : goal.publish_members-requires-clause-round
publish_members-requires-clause-round g c =
    let w = ring_frames g.R.Key.Ord.cmp (g.R.Rules.machine c.args.memos.now.rules) c.args.inputs.now (memo_at g.R.Key.Ord.cmp c.args.memos.now.places) c.args.claims.now c.args.runs.now.items
    c.claims_are_sound.ensures.sound c.requires.runs_kept c.args._id c.requires.closes.0 c.args.ring.now c.requires.within c.requires.closes.1 c.requires.closes.2 c.requires.closes.3 in
    (w.0, w.1, c.in_ok-members.ensures {u = tt} w.0 w.2 w.3)

pub returns-in-Ok-clause-published : goal.returns-in-Ok-clause-published
returns-in-Ok-clause-published g c =
    let w = ring_frames g.R.Key.Ord.cmp (g.R.Rules.machine c.args.memos.now.rules) c.args.inputs.now (memo_at g.R.Key.Ord.cmp c.args.memos.now.places) c.args.claims.now c.args.runs.now.items
    c.claims_are_sound.ensures.sound c.requires.runs_kept c.args._id c.requires.closes.0 c.args.ring.now c.requires.within c.requires.closes.1 c.requires.closes.2 c.requires.closes.3 in
    let p = c.in-Ok.ensures.published in (
      c.in_ok-members.members.items,
      p.0,
      member_keys g.R.Key.Ord.cmp (g.R.Rules.machine c.args.memos.now.rules) c.args.inputs.now.history c.args.inputs.now.revision (memo_at g.R.Key.Ord.cmp c.args.memos.now.places) w.0 c.in_ok-members.members.items
          (waits_all g.R.Key.Ord.cmp (g.R.Rules.machine c.args.memos.now.rules) c.args.inputs.now.history c.args.inputs.now.revision (memo_at g.R.Key.Ord.cmp c.args.memos.now.places) w.0 w.1) (c.in_ok-members.ensures {u = tt} w.0 w.2 w.3) ∙ w.2,
      p.1,
    )
