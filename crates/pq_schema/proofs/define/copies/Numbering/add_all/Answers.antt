use Rattle.std.proofs.Common.{ℕ, List, sym, ap, subst, ◌∙◌}
use Rattle.std.proofs.lemmas.Result.{IfOk-weaker}
use Rattle.pq_syntax.specs.declared.tree.Statement.{Statement}
use Rattle.pq_schema.specs.Definitions.{entry_name}
use Rattle.pq_schema.specs.aux.Copies.{AddsAll, AddsWithin}
use Rattle.pq_schema.proofs.NumberedNames.{adds_two}
use Rattle.pq_schema.proofs.define.copies.Numbering.add_all.Goals as goal

pub returns-in-Message : goal.returns-in-Message
returns-in-Message c = record {
  added = IfOk-weaker c.add.result _ _
      (λ n adds. subst (λ (s : Statement). AddsAll c.args.self.now c.add.new.self c.args.scope s n) (sym c.in-Message.is) (λ root names outer item. adds root names outer))
      c.add.ensures.added;
}

pub returns-in-Service : goal.returns-in-Service
returns-in-Service c = record {
  added = IfOk-weaker c.add-in-Service.result _ _
      (λ n adds. subst (λ (s : Statement). AddsAll c.args.self.now c.add-in-Service.new.self c.args.scope s n) (sym c.in-Service.is) (λ root names outer item. adds root names outer))
      c.add-in-Service.ensures.added;
}

pub returns-in-Enum : goal.returns-in-Enum
returns-in-Enum c = record {
  added = IfOk-weaker c.add_within.result _ _
      (λ n adds. subst (λ (s : Statement). AddsAll c.args.self.now c.add_within.new.self c.args.scope s n) (sym c.in-Enum.is) (λ root names outer item. adds root names outer))
      c.add_within.ensures.added;
}

pub returns-in-Field : goal.returns-in-Field
returns-in-Field c = record {
  added = IfOk-weaker c.add_within-in-Field.result _ _
      (λ n adds. subst (λ (s : Statement). AddsAll c.args.self.now c.add_within-in-Field.new.self c.args.scope s n) (sym c.in-Field.is) (λ root names outer item. adds root names outer))
      c.add_within-in-Field.ensures.added;
}

pub returns-in-Oneof : goal.returns-in-Oneof
returns-in-Oneof c = record {
  added = IfOk-weaker c.add_within-in-Oneof.result _ _
      (λ n adds. subst (λ (s : Statement). AddsAll c.args.self.now c.add_within-in-Oneof.new.self c.args.scope s n) (sym c.in-Oneof.is) (λ root names outer item. adds root names outer))
      c.add_within-in-Oneof.ensures.added;
}

pub returns-in-Value : goal.returns-in-Value
returns-in-Value c = record {
  added = IfOk-weaker c.add_within-in-Value.result _ _
      (λ n adds. subst (λ (s : Statement). AddsAll c.args.self.now c.add_within-in-Value.new.self c.args.scope s n) (sym c.in-Value.is) (λ root names outer item. adds root names outer))
      c.add_within-in-Value.ensures.added;
}

pub returns-in-Method : goal.returns-in-Method
returns-in-Method c = record {
  added = IfOk-weaker c.add_within-in-Method.result _ _
      (λ n adds. subst (λ (s : Statement). AddsAll c.args.self.now c.add_within-in-Method.new.self c.args.scope s n) (sym c.in-Method.is) (λ root names outer item. adds root names outer))
      c.add_within-in-Method.ensures.added;
}

pub returns-in_ok-entry-in-MapField : goal.returns-in_ok-entry-in-MapField
returns-in_ok-entry-in-MapField c =
    let old = c.args.self.now in
    let new = c.add_within-in-MapField.new.self in
    let scope = c.args.scope in
    record {
      added = IfOk-weaker c.add_within-in-MapField.result _ _
          (λ n adds. subst (λ (s : Statement). AddsAll old new scope s n) (sym c.in-MapField.is) (λ root names outer item. adds_two old c.add-in-MapField.new.self new scope _ _ _ n
          c.in_ok-add-in-MapField.ensures.added
          (subst (λ (own : List ℕ). AddsWithin c.add-in-MapField.new.self new scope own n) (c.in_ok-entry-in-MapField.ensures ∙ ap entry_name c.as_str.ensures.same) adds) root names outer))
          c.add_within-in-MapField.ensures.added;
    }
