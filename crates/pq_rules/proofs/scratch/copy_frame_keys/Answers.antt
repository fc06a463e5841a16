use Rattle.std.proofs.Common.{add-one}
use Rattle.pq_rules.proofs.ListLemmas.{pushed_key}
use Rattle.pq_rules.proofs.scratch.copy_frame_keys.Goals as goal

pub loop-frame-preserved : goal.loop-frame-preserved
loop-frame-preserved g c = rw add-one
    (pushed_key c.args.keys.now.items c.loop-frame.keys.items c.push.new.items.items c.args.frames.now c.loop-frame.frame-index c.frame-item.result
    c.in_ok-copy.copy c.loop-frame-test.true c.loop-frame.invariant c.frame-item.is (c.in_ok-copy.ensures {u = tt}).copy (c.in_ok-push.ensures {u = tt}).added)
