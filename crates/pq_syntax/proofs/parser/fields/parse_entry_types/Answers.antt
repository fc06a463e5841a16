use Rattle.pq_syntax.proofs.FieldParts.{entry_reads}
use Rattle.pq_syntax.proofs.Steps.{fails_first, fails_read, fails_token}
use Rattle.pq_syntax.proofs.Failing.{fails_on}
use Rattle.pq_syntax.proofs.parser.fields.parse_entry_types.Goals as goal

pub returns-in_err-rest-clause-fault : goal.returns-in_err-rest-clause-fault
returns-in_err-rest-clause-fault c = fails_on _ _ _ c.from_residual.ensures.1 (fails_first c.in_err-rest.ensures.fault)

pub returns-in_err-key-clause-fault : goal.returns-in_err-key-clause-fault
returns-in_err-key-clause-fault c =
    fails_on _ _ _ c.from_residual-in_err-key.ensures.1 (fails_token c.in_ok-rest.ensures.taken (fails_first c.in_err-key.ensures.fault))

pub returns-in_err-rest-2-clause-fault : goal.returns-in_err-rest-2-clause-fault
returns-in_err-rest-2-clause-fault c =
    fails_on _ _ _ c.from_residual-in_err-rest-2.ensures.1 (fails_token c.in_ok-rest.ensures.taken (fails_read c.in_ok-key.ensures.taken (fails_first c.in_err-rest-2.ensures.fault)))

pub returns-in_err-value-clause-fault : goal.returns-in_err-value-clause-fault
returns-in_err-value-clause-fault c =
    fails_on _ _ _ c.from_residual-in_err-value.ensures.1 (fails_token c.in_ok-rest.ensures.taken (fails_read c.in_ok-key.ensures.taken
    (fails_token c.in_ok-rest-2.ensures.taken (fails_first c.in_err-value.ensures.fault))))

pub returns-in_err-rest-3-clause-fault : goal.returns-in_err-rest-3-clause-fault
returns-in_err-rest-3-clause-fault c =
    fails_on _ _ _ c.from_residual-in_err-rest-3.ensures.1 (fails_token c.in_ok-rest.ensures.taken (fails_read c.in_ok-key.ensures.taken
    (fails_token c.in_ok-rest-2.ensures.taken (fails_read c.in_ok-value.ensures.taken c.in_err-rest-3.ensures.fault))))

pub returns-clause-taken : goal.returns-clause-taken
returns-clause-taken c = entry_reads c.in_ok-rest.ensures.taken c.in_ok-key.ensures.taken c.in_ok-rest-2.ensures.taken c.in_ok-value.ensures.taken c.in_ok-rest-3.ensures.taken
