use Rattle.std.proofs.Common.{sym, ◌∙◌, ap, List, ℕ}
use Rattle.std.specs.Prelude.{bytes_eq, codes}
use Rattle.pq_schema.proofs.RightIn.{root_none, root_one}
use Rattle.pq_schema.proofs.names.full_name.is_scope.Goals as goal

pub returns-then-eq : goal.returns-then-eq
returns-then-eq c = record {
  scope = λ is. root_none c.args.parts.now c.args.root.now
      (ap (λ (r : List ℕ). bytes_eq r (codes ".")) (sym c.as_str.ensures.same) ∙ sym c.eq.ensures ∙ c.if-eq.true)
      (sym c.is_empty.ensures ∙ is);
}

pub returns : goal.returns
returns c = record {
  scope = λ is. root_one c.args.parts.now c.args.root.now
      (ap (λ (r : List ℕ). bytes_eq r (codes ".")) (sym c.as_str.ensures.same) ∙ sym c.eq.ensures ∙ c.if-eq.false)
      (c.is_only.ensures.only is);
}
