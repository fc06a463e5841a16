use Rattle.std.proofs.Common.{sym, ◌∙◌}
use Rattle.pq_core.proofs.StoreAccepting.{false_true}
use Rattle.pq_core.proofs.store.store.Store.accept_refusal.Goals as goal

pub returns-then-is_full-clause-refused : goal.returns-then-is_full-clause-refused
returns-then-is_full-clause-refused g c =
    rw (← c.self.view_is) (c.in-Some.account.now, sym (c.in-Some.ensures {u = tt}), c.is_full.ensures.0 c.if-is_full.true)

pub returns-in-Some-clause-may : goal.returns-in-Some-clause-may
returns-in-Some-clause-may g c =
    rw (← c.self.view_is)
    (c.in-Some.account.now, sym (c.in-Some.ensures {u = tt}), λ full. false_true (sym c.if-is_full.false ∙ c.is_full.ensures.1 full))
