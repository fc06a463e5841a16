use Rattle.std.proofs.Common.{sym, ap, ◌∙◌, rules}
use Rattle.std.specs.Option.{option_copied}
use Rattle.pq_view.proofs.Endings.{root_found, root_lost, root_none}
use Rattle.pq_view.proofs.tails.Tails.root_of.Goals as goal

pub returns-in_default : goal.returns-in_default
returns-in_default c = record {
  root = λ plain. root_none c.self.inside.paths c.self.invariant c.args.importer.now c.args.name.now c.args.self.now c.self.view_is
      (sym (ap option_copied c.in_default.is) ∙ c.in_ok-path.ensures.chosen);
}

pub returns-in_ok-new-in-Some-root_below : goal.returns-in_ok-new-in-Some-root_below
returns-in_ok-new-in-Some-root_below c = record {
  root = (
    search rules,
    root_found c.self.inside.paths c.self.invariant c.args.importer.now c.args.name.now c.args.self.now c.self.view_is c.in-Some.path.now c.as_str.result.now
        (sym (ap option_copied c.in-Some.is) ∙ c.in_ok-path.ensures.chosen) c.as_str.ensures.same c.in-Some-root_below.root.now c.in_ok-new-in-Some-root_below.field-0
        c.in-Some-root_below.ensures.root c.in_ok-new-in-Some-root_below.ensures.copy,
  );
}

pub returns-in-None : goal.returns-in-None
returns-in-None c = record {
  root = λ plain. absurd
      (root_lost c.self.inside.paths c.self.invariant c.args.importer.now c.args.name.now c.args.self.now c.self.view_is c.in-Some.path.now c.as_str.result.now
      (sym (ap option_copied c.in-Some.is) ∙ c.in_ok-path.ensures.chosen) c.as_str.ensures.same c.in-None.ensures.root);
}
