use Rattle.std.proofs.Common.{◌∙◌, ◌++◌, sym, ap, List, ℕ}
use Rattle.std.specs.Prelude.{codes}
use Rattle.std.specs.List.{concat}
use Rattle.std.proofs.lemmas.Result.{IfOk-weaker}
use Rattle.pq_schema.proofs.FullNames.{leading_parts}
use Rattle.pq_schema.proofs.names.full_name.FullName.parts.Goals as goal

pub returns : goal.returns
returns c =
    record {
      parts = IfOk-weaker c.new-3.result _ _
          (λ ps is. ap concat (is ∙ c.new-2.ensures)
          ∙ leading_parts c.self.inside.scope c.in_ok-parts.parts.items c.push.new.self.items c.self.inside.name c.in_ok-with_dot.field-0 c.args.self.now
          (c.in_ok-parts.ensures.copy ∙ c.as_slice.ensures ∙ c.get.ensures.value)
          (c.in_ok-with_dot.ensures.dotted ∙ ap (λ (n : List ℕ). n ++ codes ".") c.as_str.ensures.same)
          c.in_ok-push.ensures.items c.self.view_is (sym c.is_empty.ensures.is ∙ c.if-is_empty.false))
          c.new-3.ensures.value;
    }
