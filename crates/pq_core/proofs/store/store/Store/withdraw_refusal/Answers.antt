use Rattle.std.proofs.Common.{sym}
use Rattle.pq_core.proofs.store.store.Store.withdraw_refusal.Goals as goal

pub returns-in-Some-clause-may : goal.returns-in-Some-clause-may
returns-in-Some-clause-may g c = rw (← c.self.view_is) (_, sym (c.in-Some.ensures {u = tt}))
