use Rattle.std.proofs.Common.{List, ◌++◌, ap, sym, ◌∙◌}
use Rattle.std.specs.Prelude.{flat_map}
use Rattle.std.proofs.lemmas.Result.{IfOk-weaker}
use Rattle.pq_schema.specs.declared.scope.scope.FileDefs.{FileDefs}
use Rattle.pq_schema.specs.declared.define.definitions.Definition.{Definition}
use Rattle.pq_schema.specs.Others.{other_files}
use Rattle.pq_checks.specs.Faults.{elsewhere_faults}
use Rattle.pq_checks.proofs.Elsewhere.{alone}
use Rattle.pq_checks.proofs.around.definition_lines.push_elsewhere_faults.Goals as goal

pub returns-then-not-sees_another : goal.returns-then-not-sees_another
returns-then-not-sees_another c = record {
  said = alone c.args.faults.now.items c.args.file.now c.args.scope.now.visible c.args.nodes.now c.args.defs.now.definitions (sym c.if-not-sees_another.ensures.sees);
}

pub returns : goal.returns
returns c = record {
  said = IfOk-weaker c.push_each_elsewhere.result _ _
      (λ _ h. h
      ∙ ap (λ (others : List FileDefs). c.args.faults.now.items ++ flat_map (elsewhere_faults others c.args.nodes.now) c.definitions-2.result.now) c.in_ok-others.ensures.others
      ∙ ap (λ (ds : List Definition). c.args.faults.now.items ++ flat_map (elsewhere_faults (other_files c.args.file.now c.args.scope.now) c.args.nodes.now) ds) c.definitions-2.ensures.value)
      c.push_each_elsewhere.ensures.said;
}
