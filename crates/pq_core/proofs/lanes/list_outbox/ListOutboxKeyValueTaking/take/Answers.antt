use Rattle.std.proofs.Common.{◌<◌, length, arith}
use Rattle.pq_core.proofs.Fronts.{takes_next}
use Rattle.pq_core.proofs.lanes.list_outbox.ListOutboxKeyValueTaking.take.Goals as goal

pub returns-clause-taken : goal.returns-clause-taken
returns-clause-taken g c e =
    let below : c.self.inside.taken < length c.self.inside.replies.items = omega arith in
    rw (← c.self.view_is) (rw c.reserve.ensures.items (takes_next c.self.inside.replies.items c.self.inside.taken below))
