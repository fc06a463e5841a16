use Rattle.std.proofs.Common.{Some, None, sym, ap, ◌∙◌}
use Rattle.std.specs.Prelude.{option_map, string_bytes}
use Rattle.std.proofs.lemmas.Result.{IfOk-weaker}
use Rattle.pq_view.proofs.Facing.{shown_ended, shown_more}
use Rattle.pq_view.proofs.shown.shown_path.Goals as goal

pub returns-in-Some : goal.returns-in-Some
returns-in-Some c = record {
  shown = sym (shown_more c.args.roots.now c.args.faces.now c.args.path.now c.roots.index c.index-roots-index.result c.as_str.result.now c.get.result (Some (string_bytes c.in-Some.shown))
      c.roots-test.true c.get.ensures.lookup.3 c.as_str.ensures.same c.index-roots-index.is (sym (ap (option_map string_bytes) c.in-Some.is) ∙ c.in_ok-shown.ensures.shown)) ∙ c.roots.invariant;
}

pub roots-preserved : goal.roots-preserved
roots-preserved c =
    sym (shown_more c.args.roots.now c.args.faces.now c.args.path.now c.roots.index c.index-roots-index.result c.as_str.result.now c.get.result None
    c.roots-test.true c.get.ensures.lookup.3 c.as_str.ensures.same c.index-roots-index.is (sym (ap (option_map string_bytes) c.in-None.is) ∙ c.in_ok-shown.ensures.shown)) ∙ c.roots.invariant

pub returns : goal.returns
returns c = record {
  shown = IfOk-weaker c.from_str.result _ _
      (λ s e. e ∙ sym (shown_ended c.args.roots.now c.args.faces.now c.args.path.now c.roots.index c.roots-test.false) ∙ c.roots.invariant)
      c.from_str.ensures.ok;
}
