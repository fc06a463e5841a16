use Rattle.pq_core.specs.Told.{told_puts}
use Rattle.pq_core.proofs.StoreResting.{waiting_tells}
use Rattle.pq_core.proofs.store.store.Store.has_waiting.Goals as goal

pub returns : goal.returns
returns g c =
    rw (← c.self.view_is)
    (λ l s. waiting_tells g.R.Key.Ord.cmp (g.R.Rules.machine c.self.inside.memos.rules) g.M.Stamp.point told_puts _ c.self.inside.waiting.seats l c.is_empty.result c.is_empty.ensures c.self.invariant.queue s)
