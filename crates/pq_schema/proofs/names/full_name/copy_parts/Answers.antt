use Rattle.std.proofs.Common.{refl, [], ◌∷◌}
use Rattle.pq_schema.proofs.Gathering.{gathered_more, gathered_all, pushed}
use Rattle.pq_schema.proofs.names.full_name.copy_parts.Goals as goal

pub parts-preserved : goal.parts-preserved
parts-preserved c =
    gathered_more (λ p. p ∷ []) (λ ps. ps) (λ p ps. refl) _ _ _ _ _ _ c.parts-test.true
    (pushed (λ p. p) _ _ _ _ _ c.in_ok-push.ensures.items c.in_ok-copy.ensures.copy c.part-item.is) c.parts.invariant

pub returns : goal.returns
returns c = record { copy = gathered_all (λ ps. ps) refl _ _ _ _ c.parts-test.false c.parts.invariant }
