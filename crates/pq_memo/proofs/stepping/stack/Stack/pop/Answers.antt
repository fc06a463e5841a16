use Rattle.std.specs.Prelude.{option_to_list}
use Rattle.pq_memo.proofs.Indexed.{popped_mapped}
use Rattle.pq_memo.proofs.stepping.stack.Stack.pop.Goals as goal

pub invariant_of-self : goal.invariant_of-self
invariant_of-self g c =
    popped_mapped g.R.Key.Ord.cmp c.self.inside.places.entries c.self.inside.mapped c.lesser-self-inside.result c.self.inside.frames.items c.pop-popped.new.self.items
    (option_to_list c.pop-popped.result) c.as_slice.result.now c.pop-popped.ensures.items c.as_slice.ensures.value c.lesser-self-inside.ensures.left
    c.lesser-self-inside.ensures.right c.self.invariant
