use Rattle.std.proofs.Common.{◌<◌, length, arith, subst}
use Rattle.pq_memo.proofs.Indexed.{taken_mapped}
use Rattle.pq_memo.proofs.stepping.stack.Stack.cut.Goals as goal

pub invariant_of-self : goal.invariant_of-self
invariant_of-self g c =
    let within : c.args.place < length c.as_slice.result.now = omega arith in
    let inside : c.args.place < length c.self.inside.frames.items = subst (λ xs. c.args.place < length xs) c.as_slice.ensures.value within in
    let below : c.args.place < length c.args.self.now = subst (λ xs. c.args.place < length xs) c.self.view_is inside in
    taken_mapped g.R.Key.Ord.cmp c.self.inside.places.entries c.self.inside.mapped c.lesser-self-inside.result c.args.place c.self.inside.frames.items c.args.self.now
    c.truncate.new.self.items c.truncate.ensures.items c.self.view_is below c.lesser-self-inside.ensures.left c.lesser-self-inside.ensures.right
    c.self.invariant
