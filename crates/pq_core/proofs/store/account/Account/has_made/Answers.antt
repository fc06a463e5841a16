use Rattle.pq_core.proofs.MadeCounts.{index_tells}
use Rattle.pq_core.proofs.store.account.Account.has_made.Goals as goal

pub returns : goal.returns
returns g c = rw (← c.self.view_is) (index_tells _ c.self.inside.made.items _ _ _ c.self.invariant c.is_empty.ensures c.self.inside.made.ok.0)
