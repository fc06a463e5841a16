use Rattle.std.proofs.Common.{◌<◌, ◌∙◌, length, arith}
use Rattle.pq_memo.proofs.SlotCalls.{slot_within, key_is}
use Rattle.pq_memo.proofs.table.slots.Slots.share_key.Goals as goal

pub bounds-as_slice-number : goal.bounds-as_slice-number
bounds-as_slice-number g c = slot_within c.args.self.now c.as_slice.result.now c.args.number c.args._key.now (c.as_slice.ensures.value ∙ c.self.view_is) c.requires

pub offset_bounds-as_slice-number : goal.offset_bounds-as_slice-number
offset_bounds-as_slice-number g c = let b : c.args.number < length c.as_slice.result.now = bounds-as_slice-number g c in omega arith

pub returns : goal.returns
returns g c =
    key_is c.args.self.now c.self.inside.slots.items c.as_slice.result.now c.args.number c.index-as_slice-number.result c.in_ok-shared.shared c.args._key.now
    c.self.view_is c.as_slice.ensures.value
    (slot_within c.args.self.now c.as_slice.result.now c.args.number c.args._key.now (c.as_slice.ensures.value ∙ c.self.view_is) c.requires)
    c.index-as_slice-number.is c.in_ok-shared.ensures c.requires
