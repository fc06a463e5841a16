use Rattle.pq_syntax.proofs.Enumerating.{value_adds}
use Rattle.pq_syntax.proofs.Steps.{fails_first, fails_token, fails_read}
use Rattle.pq_syntax.proofs.Failing.{fails_on}
use Rattle.pq_syntax.proofs.parser.enums.parse_value.Goals as goal

pub returns-in_err-name-clause-fault : goal.returns-in_err-name-clause-fault
returns-in_err-name-clause-fault c = fails_on _ _ _ c.from_residual.ensures.1 (fails_first c.in_err-name.ensures.fault)

pub returns-in_err-rest-clause-fault : goal.returns-in_err-rest-clause-fault
returns-in_err-rest-clause-fault c =
    fails_on _ _ _ c.from_residual-in_err-rest.ensures.1 (fails_read c.in_ok-name.ensures.taken (fails_first c.in_err-rest.ensures.fault))

pub returns-in_err-number-clause-fault : goal.returns-in_err-number-clause-fault
returns-in_err-number-clause-fault c =
    fails_on _ _ _ c.from_residual-in_err-number.ensures.1 (fails_read c.in_ok-name.ensures.taken (fails_token c.in_ok-rest.ensures.taken (fails_first c.in_err-number.ensures.fault)))

pub returns-in_err-options-clause-fault : goal.returns-in_err-options-clause-fault
returns-in_err-options-clause-fault c =
    fails_on _ _ _ c.from_residual-in_err-options.ensures.1 (fails_read c.in_ok-name.ensures.taken (fails_token c.in_ok-rest.ensures.taken
    (fails_read c.in_ok-number.ensures.taken (fails_first c.in_err-options.ensures.fault))))

pub returns-in_err-rest-2-clause-fault : goal.returns-in_err-rest-2-clause-fault
returns-in_err-rest-2-clause-fault c =
    fails_on _ _ _ c.from_residual-in_err-rest-2.ensures.1 (fails_read c.in_ok-name.ensures.taken (fails_token c.in_ok-rest.ensures.taken
    (fails_read c.in_ok-number.ensures.taken (fails_read c.in_ok-options.ensures.taken c.in_err-rest-2.ensures.fault))))

pub returns-clause-taken : goal.returns-clause-taken
returns-clause-taken c =
    value_adds _ _ c.in_ok-name.ensures.taken c.in_ok-rest.ensures.taken c.in_ok-number.ensures.taken c.in_ok-options.ensures.taken
    c.in_ok-rest-2.ensures.taken c.in_ok-push_node.ensures
