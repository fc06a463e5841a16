use Rattle.std.proofs.Common.{ap, length, arith}
use Rattle.pq_core.proofs.Turned.{some_waits, some_left, not_both}
use Rattle.pq_core.proofs.store.queue.Queue.pop.Goals as goal

pub overflow_sub-self : goal.overflow_sub-self
overflow_sub-self c =
    let some = some_waits c.drop_empty.new.turns.items (some_left _ _ c.is_empty.result c.is_empty.ensures c.drop_empty.new.turns.ok.0 (not_both _ c.if-is_empty.false)) c.drop_empty.ensures.first in
    let counted = c.self.invariant.counted in
    let same = ap (λ l. length l) c.drop_empty.ensures.seats in
    omega arith
