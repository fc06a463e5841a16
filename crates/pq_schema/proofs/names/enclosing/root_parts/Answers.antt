use Rattle.std.proofs.Common.{sym, ap, ◌∙◌}
use Rattle.std.specs.List.{concat}
use Rattle.std.proofs.lemmas.Result.{IfOk-weaker}
use Rattle.pq_schema.proofs.FullNames.{empty_root, one_root}
use Rattle.pq_schema.proofs.names.enclosing.root_parts.Goals as goal

pub returns-then-is_empty : goal.returns-then-is_empty
returns-then-is_empty c =
    record {
      parts = IfOk-weaker c.new-then-is_empty-2.result _ _
          (λ ps is. ap concat (is ∙ c.new-then-is_empty.ensures ∙ c.new.ensures.items) ∙ empty_root c.args.name.now c.as_str.result.now c.as_str.ensures.same (sym c.if-is_empty.ensures))
          c.new-then-is_empty-2.ensures.value;
    }

pub returns : goal.returns
returns c =
    record {
      parts = IfOk-weaker c.new-3.result _ _
          (λ ps is. ap concat (is ∙ c.new-2.ensures)
          ∙ one_root c.in_ok-parts.parts.items c.push.new.self.items c.args.name.now c.as_str.result.now c.args.root.now c.in_ok-copy.field-0 c.in_ok-parts.ensures.items c.in_ok-push.ensures.items c.in_ok-copy.ensures.copy c.requires.root c.as_str.ensures.same (sym c.if-is_empty.ensures))
          c.new-3.ensures.value;
    }
