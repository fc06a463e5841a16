use Rattle.std.proofs.Common.{refl, [], ◌∷◌}
use Rattle.pq_schema.proofs.Gathering.{gathered_more, gathered_all, pushed}
use Rattle.pq_schema.proofs.search.inner.copy_leads.Goals as goal

pub leads-preserved : goal.leads-preserved
leads-preserved c =
    gathered_more (λ p. p ∷ []) (λ ps. ps) (λ p ps. refl) _ _ _ _ _ _ c.leads-test.true
    (pushed (λ p. p) _ _ _ _ _ c.in_ok-push.ensures.items c.in_ok-copy.ensures.copy c.lead-item.is) c.leads.invariant

pub returns : goal.returns
returns c = record { copy = gathered_all (λ ps. ps) refl _ _ _ _ c.leads-test.false c.leads.invariant }
