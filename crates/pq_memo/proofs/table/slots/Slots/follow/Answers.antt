use Rattle.pq_memo.proofs.SlotCalls.{slot_is}
use Rattle.pq_memo.proofs.table.slots.Slots.follow.Goals as goal

pub returns-then-is_same_key : goal.returns-then-is_same_key
returns-then-is_same_key g c =
    slot_is c.args.self.now c.self.inside.slots.items c.as_slice-slots.result.now c.in_ok-number.number c.index-slots-number.result c.key.result.now c.args.key.now
    c.self.view_is c.as_slice-slots.ensures.value c.if-number-slots.true c.index-slots-number.is c.key.ensures (c.is_same_key.ensures.0 c.if-is_same_key.true)
