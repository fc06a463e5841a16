use Rattle.std.proofs.Common.{ℕ, List, ◌==◌, length, sym, ap, ◌∙◌}
use Rattle.std.specs.List.{concat}
use Rattle.std.proofs.lemmas.Result.{IfOk-weaker}
use Rattle.pq_schema.proofs.FullNames.{lead_empty, lead_some}
use Rattle.pq_schema.proofs.names.lead.inner_lead.Goals as goal

pub returns-then-is_empty : goal.returns-then-is_empty
returns-then-is_empty c =
    let front = concat c.args.front.now in
    let none = ap (λ (n : List ℕ). length n == 0) (sym c.new.ensures.pieces) ∙ sym c.is_empty.ensures.is ∙ c.if-is_empty.true in
    record {
      lead = IfOk-weaker c.new-then-is_empty.result _ _
          (λ l h root is. lead_empty front root c.args.scope.now l none is (h ∙ c.in_ok-of.ensures.text ∙ c.in_ok-lead_text.ensures.lead))
          c.new-then-is_empty.ensures.value;
    }

pub returns : goal.returns
returns c =
    let front = concat c.args.front.now in
    let some = ap (λ (n : List ℕ). length n == 0) (sym c.new.ensures.pieces) ∙ sym c.is_empty.ensures.is ∙ c.if-is_empty.false in
    record {
      lead = IfOk-weaker c.new-2.result _ _
          (λ l h root is. lead_some front root c.args.scope.now c.in_ok-with_dot.field-0 l some is c.in_ok-with_dot.ensures.dotted (h ∙ c.in_ok-after.ensures.text))
          c.new-2.ensures.value;
    }
