use Rattle.std.proofs.Common.{sym, ◌∙◌}
use Rattle.pq_schema.proofs.RightIn.{only_part}
use Rattle.pq_schema.proofs.names.full_name.is_only.Goals as goal

pub returns-then-is_empty : goal.returns-then-is_empty
returns-then-is_empty c = record {
  only = λ is. only_part c.args.parts.now c.in-Some.others.now c.in-Some.first.now c.args.root.now c.in-Some.ensures.cases.0
      (sym c.is_empty.ensures ∙ c.if-is_empty.true) (sym c.eq.ensures ∙ is);
}
