use Rattle.std.proofs.Common.{sym, refl}
use Rattle.pq_core.proofs.store.store.Store.has_run.Goals as goal

pub returns-in-Some : goal.returns-in-Some
returns-in-Some g c =
    let here = sym (rw c.number.ensures at (c.in-Some.ensures {u = tt})) in
    rw (← c.self.view_is) (λ yes. (c.in-Some.field-0.now, here), λ h. refl)
