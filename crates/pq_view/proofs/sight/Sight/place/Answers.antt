use Rattle.std.proofs.Common.{sym, ap, ◌∙◌}
use Rattle.pq_view.specs.Views.{below}
use Rattle.pq_view.specs.aux.Sights.{seen}
use Rattle.pq_view.proofs.Placing.{place_found, place_passed, place_ended}
use Rattle.pq_view.proofs.sight.Sight.place.Goals as goal

pub returns-then-is_some : goal.returns-then-is_some
returns-then-is_some c = record {
  place = sym (place_found (seen c.args.self.now) c.args.self.now.roots.now c.roots.root-index c.root-item.result c.args.name.now _ c.as_str-in-roots.result.now c.text_at.result
      c.roots-test.true (c.in_ok-path.ensures.path ∙ ap (λ r. below r c.args.name.now) c.as_str.ensures.same) c.root-item.is c.as_str-in-roots.ensures.value c.text_at.ensures.text (sym (c.if-is_some.ensures {u = tt}))) ∙ c.roots.invariant;
}

pub roots-preserved : goal.roots-preserved
roots-preserved c =
    place_passed (seen c.args.self.now) c.args.self.now.roots.now c.roots.root-index c.root-item.result c.args.name.now _ c.as_str-in-roots.result.now c.text_at.result
    c.roots-test.true (c.in_ok-path.ensures.path ∙ ap (λ r. below r c.args.name.now) c.as_str.ensures.same) c.root-item.is c.as_str-in-roots.ensures.value c.text_at.ensures.text (sym (c.if-is_some.ensures {u = tt})) ∙ c.roots.invariant

pub returns : goal.returns
returns c = record { place = sym (place_ended (seen c.args.self.now) c.args.self.now.roots.now c.roots.root-index c.args.name.now c.roots-test.false) ∙ c.roots.invariant }
