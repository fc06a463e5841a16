use Rattle.pq_syntax.proofs.FileStatements.{package_adds}
use Rattle.pq_syntax.proofs.Steps.{fails_first, fails_read, fails_token}
use Rattle.pq_syntax.proofs.Failing.{fails_on}
use Rattle.pq_syntax.proofs.parser.files.parse_package.Goals as goal

pub returns-in_err-rest-clause-fault : goal.returns-in_err-rest-clause-fault
returns-in_err-rest-clause-fault c = fails_on _ _ _ c.from_residual.ensures.1 (fails_first c.in_err-rest.ensures.fault)

pub returns-in_err-name-clause-fault : goal.returns-in_err-name-clause-fault
returns-in_err-name-clause-fault c =
    fails_on _ _ _ c.from_residual-in_err-name.ensures.1 (fails_token c.in_ok-rest.ensures.taken (fails_first c.in_err-name.ensures.fault))

pub returns-in_err-rest-2-clause-fault : goal.returns-in_err-rest-2-clause-fault
returns-in_err-rest-2-clause-fault c =
    fails_on _ _ _ c.from_residual-in_err-rest-2.ensures.1 (fails_token c.in_ok-rest.ensures.taken (fails_read c.in_ok-name.ensures.taken c.in_err-rest-2.ensures.fault))

pub returns-clause-taken : goal.returns-clause-taken
returns-clause-taken c = package_adds c.in_ok-rest.ensures.taken c.in_ok-name.ensures.taken c.in_ok-rest-2.ensures.taken c.in_ok-push_node.ensures
