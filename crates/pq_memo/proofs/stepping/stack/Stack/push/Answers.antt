use Rattle.pq_memo.proofs.Indexed.{pushed_mapped}
use Rattle.pq_memo.proofs.stepping.stack.Stack.push.Goals as goal

pub invariant_of-self-2 : goal.invariant_of-self-2
invariant_of-self-2 g c =
    pushed_mapped g.R.Key.Ord.cmp c.map_next.new.places.entries c.in_ok-self-inside.field-0 c.args.self.now c.as_slice.result.now c.self.inside.frames.items
    c.push_frame.new.frames.items c.args.frame c.as_slice.ensures.value c.self.view_is (c.in_ok-push_frame.ensures {u = tt}).pushed c.requires
    (c.in_ok-self-inside.ensures {u = tt}).mapped
