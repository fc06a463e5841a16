use Rattle.pq_core.proofs.MadeCounts.{length_tells}
use Rattle.pq_core.proofs.store.account.Account.owes.Goals as goal

pub returns : goal.returns
returns g c = rw (← c.self.view_is) (length_tells _ _ _ c.is_empty.ensures c.self.inside.stages.ok.0)
