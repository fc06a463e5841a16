use Rattle.pq_memo.proofs.Indexed.{taken_mapped}
use Rattle.pq_memo.proofs.stepping.stack.Stack.split_off.Goals as goal

pub invariant_of-self-2 : goal.invariant_of-self-2
invariant_of-self-2 g c =
    taken_mapped g.R.Key.Ord.cmp c.self.inside.places.entries c.self.inside.mapped c.lesser-self-inside.result c.args.place c.self.inside.frames.items c.args.self.now
    c.split_off.new.self.items (c.in_ok-taken.ensures {u = tt}).items c.self.view_is c.requires c.lesser-self-inside.ensures.left c.lesser-self-inside.ensures.right
    c.self.invariant
