use Rattle.std.proofs.Common.{◌∷◌, ◌++◌, cond, [], refl, ap, ◌∙◌}
use Rattle.pq_links.specs.Visibility.{passed_on}
use Rattle.pq_links.specs.aux.Adding.{add_firsts, same_name}
use Rattle.pq_links.specs.declared.links.Import.{Import}
use Rattle.pq_links.specs.declared.links.Links.{Links}
use Rattle.pq_links.proofs.OnceOnly.{once_of}
use Rattle.pq_links.proofs.AddSteps.{adds_more, adds_all, ends_in}
use Rattle.pq_links.proofs.linked.names.exports_of.Goals as goal

pub each_pair-init : goal.each_pair-init
each_pair-init c = ap (λ ns. add_firsts same_name ns (passed_on c.args.pairs.now)) (cc (c.in_ok-add_name.ensures.added, c.new-names.ensures.empty))

pub each_pair-preserved : goal.each_pair-preserved
each_pair-preserved c =
    adds_more same_name (λ (e : Import × Links). cond e.0.is_public e.1.exports []) passed_on (λ x xs. refl) _ _ _ _ _ _ c.each_pair-test.true
    (c.in_ok-add_public.ensures.added ∙ ap (λ (e : Import × Links). add_firsts same_name c.each_pair.names (cond e.0.is_public e.1.exports [])) c.pair-item.is) c.each_pair.invariant

pub new-requires : goal.new-requires
new-requires c = record { once = once_of _ (c.args.file.now ∷ (passed_on c.args.pairs.now ++ (cond c.args.last.now.is_public c.args.links.now.exports []))) (c.into_vec.ensures.items ∙ ends_in c.args.file.now c.each_pair.names _ (passed_on c.args.pairs.now) (cond c.args.last.now.is_public c.args.links.now.exports []) (adds_all same_name passed_on refl _ _ _ _ c.each_pair-test.false c.each_pair.invariant) (c.in_ok-add_public-2.ensures.added)) }

pub returns : goal.returns
returns c = record {
  names = c.new.ensures.names ∙ c.into_vec.ensures.items ∙ ends_in c.args.file.now c.each_pair.names _ (passed_on c.args.pairs.now) _ (adds_all same_name passed_on refl _ _ _ _ c.each_pair-test.false c.each_pair.invariant) (c.in_ok-add_public-2.ensures.added);
}
