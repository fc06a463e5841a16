use Rattle.std.proofs.Common.{refl, ◌∙◌}
use Rattle.pq_memo.proofs.SlotCalls.{slot_is, key_past}
use Rattle.pq_memo.proofs.table.slots.Slots.key_of.Goals as goal

pub returns-then-number-slots-clause-key : goal.returns-then-number-slots-clause-key
returns-then-number-slots-clause-key g c =
    slot_is c.args.self.now c.self.inside.slots.items c.as_slice-slots.result.now c.args.number c.index-slots-number.result c.key.result.now c.key.result.now
    c.self.view_is c.as_slice-slots.ensures.value c.if-number-slots.true c.index-slots-number.is c.key.ensures refl

pub returns-clause-none : goal.returns-clause-none
returns-clause-none g c = key_past c.args.self.now c.as_slice-slots.result.now c.args.number (c.as_slice-slots.ensures.value ∙ c.self.view_is) c.if-number-slots.false
