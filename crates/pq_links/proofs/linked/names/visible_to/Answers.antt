use Rattle.std.proofs.Common.{◌∷◌, ◌++◌, refl, ap, ◌∙◌}
use Rattle.pq_links.specs.Visibility.{shown}
use Rattle.pq_links.specs.aux.Adding.{add_firsts, same_name}
use Rattle.pq_links.specs.declared.links.Import.{Import}
use Rattle.pq_links.specs.declared.links.Links.{Links}
use Rattle.pq_links.proofs.OnceOnly.{once_of}
use Rattle.pq_links.proofs.AddSteps.{adds_more, adds_all, ends_in}
use Rattle.pq_links.proofs.linked.names.visible_to.Goals as goal

pub each_pair-init : goal.each_pair-init
each_pair-init c = ap (λ ns. add_firsts same_name ns (shown c.args.pairs.now)) (cc (c.in_ok-add_name.ensures.added, c.new-names.ensures.empty))

pub each_pair-preserved : goal.each_pair-preserved
each_pair-preserved c =
    adds_more same_name (λ (e : Import × Links). e.1.exports) shown (λ x xs. refl) c.each_pair.names c.add_names.new.names _ c.args.pairs.now c.each_pair.pair-index c.pair-item.result c.each_pair-test.true
    (cc (c.in_ok-add_names.ensures.added, c.as_slice.ensures.value, c.get-in-each_pair.ensures.value, c.pair-item.is)) c.each_pair.invariant

pub new-requires : goal.new-requires
new-requires c = record { once = once_of _ (c.args.file.now ∷ (shown c.args.pairs.now ++ c.args.links.now.exports)) (c.into_vec.ensures.items ∙ ends_in c.args.file.now c.each_pair.names _ (shown c.args.pairs.now) c.args.links.now.exports (adds_all same_name shown refl _ _ _ _ c.each_pair-test.false c.each_pair.invariant) (cc (c.in_ok-add_names-2.ensures.added, c.as_slice-2.ensures.value, c.get-2.ensures.value))) }

pub returns : goal.returns
returns c = record {
  names = c.new.ensures.names ∙ c.into_vec.ensures.items ∙ ends_in c.args.file.now c.each_pair.names _ (shown c.args.pairs.now) _ (adds_all same_name shown refl _ _ _ _ c.each_pair-test.false c.each_pair.invariant) (cc (c.in_ok-add_names-2.ensures.added, c.as_slice-2.ensures.value, c.get-2.ensures.value));
}
