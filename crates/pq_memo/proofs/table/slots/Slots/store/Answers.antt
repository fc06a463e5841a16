use Rattle.std.proofs.Common.{Option, Some, cond, ◌∙◌, ap}
use Rattle.std.specs.Ordering.{is_eq}
use Rattle.pq_memo.specs.Sound.{Memo}
use Rattle.pq_memo.proofs.table.slots.Slots.store.Goals as goal

pub returns-in-Ok-clause-put : goal.returns-in-Ok-clause-put
returns-in-Ok-clause-put g c =
    λ q. c.put.ensures.put q
    ∙ ap (λ (o : Option (Memo g.row.R-Key.Denot g.row.R-Value.Denot)). cond (is_eq (g.R.Key.Ord.cmp c.args.key q)) (Some c.args.entry) o) (c.make_room.ensures.same q)
