use Rattle.std.proofs.Common.{Some}
use Rattle.pq_memo.proofs.SlotCalls.{changed_slots}
use Rattle.pq_memo.proofs.table.slots.set_at.Goals as goal

pub returns : goal.returns
returns g c =
    changed_slots c.args.slots.now.items c.args.number c.index_mut.result.now c.set.new.self (λ old. Some c.args.entry)
    c.requires c.index_mut.ensures.value c.set.ensures
