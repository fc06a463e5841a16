use Rattle.pq_core.proofs.RingRuns.{below_differ}
use Rattle.pq_core.proofs.RingLeaving.{first_left, next_left, run_left, start_over, still_below, still_over}
use Rattle.pq_core.proofs.Claiming.{others_then}
use Rattle.pq_core.proofs.runs.frames.Frames.leave_ring.Goals as goal

pub count_below-left-requires : goal.count_below-left-requires
count_below-left-requires g c = record { differ = below_differ c.args.claims.now c.args.id c.args.self.now.stack c.claims_are_sound.ensures.sound c.requires.claimed }

pub frames-init : goal.frames-init
frames-init g c =
    let f = first_left c.args.self.now.stack c.leave.new.self.stack c.leave.new.self.top c.leave.ensures.lowered in
    (f.0, f.1, f.2, c.leave.ensures.claimed, c.leave.ensures.others, start_over c.args.self.now.stack f.0 c.count_below-left.result f.1 c.count_below-left.ensures.within)

pub leave-requires-in-frames : goal.leave-requires-in-frames
leave-requires-in-frames g c =
    let i = c.frames.invariant in
    record {
      claimed = still_below c.args.self.now.stack c.frames-2.result.now c.frames.self.stack c.frames.self.top c.count_below-left.result c.frames._step c.frames-2.ensures c.frames-test.true i.0 i.1 i.2 _ i.3;
    }

pub frames-preserved : goal.frames-preserved
frames-preserved g c =
    let i = c.frames.invariant in
    let n = next_left c.args.self.now.stack c.frames-2.result.now c.frames.self.stack c.frames.self.top c.count_below-left.result c.frames._step c.frames-2.ensures c.frames-test.true i.0 i.1 i.2
    c.leave-in-frames.new.self.stack c.leave-in-frames.new.self.top c.leave-in-frames.ensures.lowered in (
      n.0,
      n.1,
      n.2,
      c.leave-in-frames.ensures.claimed,
      others_then c.args.id c.args.claims.now c.frames.claims c.leave-in-frames.new.claims i.4 c.leave-in-frames.ensures.others,
      still_over c.args.self.now.stack c.frames-2.result.now n.0 c.count_below-left.result c.frames._step c.frames-2.ensures n.1 c.count_below-left.ensures.within c.frames-test.true,
    )

pub returns : goal.returns
returns g c =
    let i = c.frames.invariant in
    record {
      left = run_left c.args.id c.args.key.now c.args.self.now.stack c.frames-2.result.now c.frames.self.stack c.frames.self.top c.count_below-left.result c.frames._step i.0 c.args.claims.now c.frames.claims
          c.end_wait.new.self c.frames-2.ensures c.count_below-left.ensures.within c.count_below-left.ensures.apart c.count_below-left.ensures.split c.frames-test.false i.5 i.1 i.2 i.3 i.4 c.requires.claimed c.end_wait.ensures.ended;
    }
