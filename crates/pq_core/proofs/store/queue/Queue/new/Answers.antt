use Rattle.std.proofs.Common.{refl}
use Rattle.pq_core.proofs.InTurn.{apart_none}
use Rattle.pq_core.proofs.store.queue.Queue.new.Goals as goal

pub invariant_of-result : goal.invariant_of-result
invariant_of-result c = rw c.new.ensures.items (record { counted = refl; apart = apart_none; room = tt })
