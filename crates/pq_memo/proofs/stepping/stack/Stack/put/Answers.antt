use Rattle.pq_memo.proofs.Indexed.{pushed_mapped}
use Rattle.pq_memo.proofs.stepping.stack.Stack.put.Goals as goal

pub invariant_of-self-in-Ok-push : goal.invariant_of-self-in-Ok-push
invariant_of-self-in-Ok-push g c =
    pushed_mapped g.R.Key.Ord.cmp c.map_next.new.places.entries c.in-Ok.mapped c.args.self.now c.as_slice.result.now c.self.inside.frames.items
    c.push-2.new.self.items c.args.frame c.as_slice.ensures.value c.self.view_is (c.in-Ok-push.ensures {u = tt}).items c.requires
    (c.in-Ok.ensures {u = tt}).mapped
