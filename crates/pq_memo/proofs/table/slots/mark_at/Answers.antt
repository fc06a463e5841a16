use Rattle.std.specs.Option.{option_map}
use Rattle.pq_memo.specs.Sound.{Memo}
use Rattle.pq_memo.specs.Writes.{remarked}
use Rattle.pq_memo.proofs.SlotCalls.{changed_slots}
use Rattle.pq_memo.proofs.table.slots.mark_at.Goals as goal

pub returns : goal.returns
returns g c =
    changed_slots c.args.slots.now.items c.args.number c.index_mut.result.now c.mark.new.self
    (option_map (λ (m : Memo g.row.K.Denot g.row.V.Denot). remarked m c.args.revision c.args.durability))
    c.requires c.index_mut.ensures.value c.mark.ensures
