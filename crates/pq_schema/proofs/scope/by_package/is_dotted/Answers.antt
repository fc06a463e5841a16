use Rattle.std.proofs.Common.{ℕ, List, nat_eq, ap, ◌∙◌, arith}
use Rattle.std.specs.List.{starts_with}
use Rattle.pq_schema.specs.aux.InPackage.{dotted}
use Rattle.pq_schema.proofs.Dotted.{dotted_length, other_length, whole}
use Rattle.pq_schema.proofs.scope.by_package.is_dotted.Goals as goal

pub returns-then-saturating_sub-eq1 : goal.returns-then-saturating_sub-eq1
returns-then-saturating_sub-eq1 c =
    let long = dotted_length c.args.name.now in
    let entry = ap (λ (x : List ℕ). starts_with nat_eq x (dotted c.as_bytes-then-saturating_sub-eq1.result.now)) c.as_bytes.ensures.value in
    let name = ap (λ (x : List ℕ). starts_with nat_eq c.args.entry.now (dotted x)) c.as_bytes-then-saturating_sub-eq1.ensures.value in
    record { is = c.is_inside.ensures.is ∙ entry ∙ name ∙ whole c.args.entry.now (dotted c.args.name.now) (omega arith) }

pub returns-else-saturating_sub-eq1 : goal.returns-else-saturating_sub-eq1
returns-else-saturating_sub-eq1 c =
    let long = dotted_length c.args.name.now in
    record { is = other_length c.args.entry.now (dotted c.args.name.now) (λ same. c.if-saturating_sub-eq1.false (omega arith)) }
