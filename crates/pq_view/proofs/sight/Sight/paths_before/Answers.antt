use Rattle.std.proofs.Common.{drop, sym, ap, ◌∙◌, rules}
use Rattle.pq_view.specs.Views.{below, paths_before_in}
use Rattle.pq_view.specs.aux.Sights.{seen}
use Rattle.pq_view.proofs.Placing.{before_done, before_ended, before_found, before_next, before_passed}
use Rattle.pq_view.proofs.sight.Sight.paths_before.Goals as goal

pub returns-then-is_some : goal.returns-then-is_some
returns-then-is_some c = record {
  paths = before_done (seen c.args.self.now) c.args.name.now c.roots.paths.items _ (sym (c.if-is_path.ensures {u = tt}))
      (before_found (seen c.args.self.now) c.args.self.now.roots.now c.roots.root-index c.root-item.result c.args.name.now _ c.as_str-in-roots.result.now c.text_at.result
      c.roots-test.true (c.in_ok-path.ensures.path ∙ ap (λ r. below r c.args.name.now) c.as_str.ensures.same) c.root-item.is c.as_str-in-roots.ensures.value c.text_at.ensures.text (sym (c.if-is_some.ensures {u = tt})))
      c.roots.invariant;
}

pub roots-preserved : goal.roots-preserved
roots-preserved c =
    before_next c.roots.paths.items c.push.new.self.items (paths_before_in (seen c.args.self.now) (drop c.roots.root-index c.args.self.now.roots.now) c.args.name.now) _ _ _
    (search rules)
    (before_passed (seen c.args.self.now) c.args.self.now.roots.now c.roots.root-index c.root-item.result c.args.name.now _ c.as_str-in-roots.result.now c.text_at.result
    c.roots-test.true (c.in_ok-path.ensures.path ∙ ap (λ r. below r c.args.name.now) c.as_str.ensures.same) c.root-item.is c.as_str-in-roots.ensures.value c.text_at.ensures.text (sym (c.if-is_some.ensures {u = tt})))
    c.roots.invariant

pub returns : goal.returns
returns c = record {
  paths = before_done (seen c.args.self.now) c.args.name.now c.roots.paths.items _ (sym (c.if-is_path.ensures {u = tt}))
      (before_ended (seen c.args.self.now) c.args.self.now.roots.now c.roots.root-index c.args.name.now c.roots-test.false) c.roots.invariant;
}
