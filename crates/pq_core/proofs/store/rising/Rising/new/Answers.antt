use Rattle.std.proofs.Common.{sym}
use Rattle.pq_core.proofs.Slots.{found_nil, above_nil, rises_nil, count_nil}
use Rattle.pq_core.proofs.store.rising.Rising.new.Goals as goal

pub invariant_of-result : goal.invariant_of-result
invariant_of-result g c = rw c.new.ensures.items (record { rises = rises_nil _; counted = sym (count_nil _) })

pub returns-clause-none : goal.returns-clause-none
returns-clause-none g c = λ n. rw c.new.ensures.items (found_nil _ n)

pub returns-clause-above : goal.returns-clause-above
returns-clause-above g c = λ n. rw c.new.ensures.items (above_nil _ n)
