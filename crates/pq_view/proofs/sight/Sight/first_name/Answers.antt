use Rattle.std.proofs.Common.{sym, ap, ◌∙◌}
use Rattle.std.specs.Option.{option_copied}
use Rattle.pq_view.specs.aux.Sights.{seen}
use Rattle.pq_view.proofs.Placing.{first_at, first_ended}
use Rattle.pq_view.proofs.sight.Sight.first_name.Goals as goal

pub returns-in-Some : goal.returns-in-Some
returns-in-Some c = record {
  name = sym (first_at (seen c.args.self.now) c.args.path.now c.args.self.now.roots.now c.roots.root-index c.root-item.result c.as_str.result.now _
      c.roots-test.true c.as_str.ensures.same c.root-item.is (sym (ap option_copied c.in-Some.is) ∙ c.in_ok-name.ensures.name)) ∙ c.roots.invariant;
}

pub roots-preserved : goal.roots-preserved
roots-preserved c =
    sym (first_at (seen c.args.self.now) c.args.path.now c.args.self.now.roots.now c.roots.root-index c.root-item.result c.as_str.result.now _
    c.roots-test.true c.as_str.ensures.same c.root-item.is (sym (ap option_copied c.in-None.is) ∙ c.in_ok-name.ensures.name)) ∙ c.roots.invariant

pub returns : goal.returns
returns c = record { name = sym (first_ended (seen c.args.self.now) c.args.path.now c.args.self.now.roots.now c.roots.root-index c.roots-test.false) ∙ c.roots.invariant }
