use Rattle.pq_syntax.proofs.FieldParts.{field_adds}
use Rattle.pq_syntax.proofs.Steps.{fails_first, fails_read}
use Rattle.pq_syntax.proofs.Failing.{fails_on}
use Rattle.pq_syntax.proofs.parser.fields.parse_field.Goals as goal

pub returns-in_err-type_name-clause-fault : goal.returns-in_err-type_name-clause-fault
returns-in_err-type_name-clause-fault c = fails_on _ _ _ c.from_residual.ensures.1 (fails_first c.in_err-type_name.ensures.fault)

pub returns-in_err-tail-clause-fault : goal.returns-in_err-tail-clause-fault
returns-in_err-tail-clause-fault c =
    fails_on _ _ _ c.from_residual-in_err-tail.ensures.1 (fails_read c.in_ok-type_name.ensures.taken c.in_err-tail.ensures.fault)

pub returns-clause-taken : goal.returns-clause-taken
returns-clause-taken c = field_adds _ _ c.in_ok-type_name.ensures.taken c.in_ok-tail.ensures.taken c.in_ok-push_node.ensures
