use Rattle.std.proofs.Common.{refl, ap, ◌∙◌, [], ◌∷◌}
use Rattle.pq_links.specs.aux.Adding.{add_first, same_name}
use Rattle.pq_links.proofs.AddSteps.{adds_more, adds_all}
use Rattle.pq_links.proofs.linked.names.add_names.Goals as goal

pub each_name-preserved : goal.each_name-preserved
each_name-preserved c =
    adds_more same_name (λ x. x ∷ []) (λ xs. xs) (λ x xs. refl) _ _ _ _ _ _ c.each_name-test.true
    (c.in_ok-place.ensures.added ∙ ap (λ n. add_first same_name c.each_name.names n) c.name-item.is) c.each_name.invariant

pub returns : goal.returns
returns c = record { added = adds_all same_name (λ xs. xs) refl _ _ _ _ c.each_name-test.false c.each_name.invariant }
