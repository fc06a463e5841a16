use Rattle.pq_syntax.proofs.FileStatements.{import_adds}
use Rattle.pq_syntax.proofs.Steps.{fails_first, fails_read, fails_token}
use Rattle.pq_syntax.proofs.Failing.{fails_on}
use Rattle.pq_syntax.proofs.parser.files.parse_import.Goals as goal

pub returns-in_err-rest-clause-fault : goal.returns-in_err-rest-clause-fault
returns-in_err-rest-clause-fault c = fails_on _ _ _ c.from_residual.ensures.1 (fails_first c.in_err-rest.ensures.fault)

pub returns-in_err-file-clause-fault : goal.returns-in_err-file-clause-fault
returns-in_err-file-clause-fault c =
    fails_on _ _ _ c.from_residual-in_err-file.ensures.1 (fails_token c.in_ok-rest.ensures.taken (fails_read c.parse_import_kind-kind.ensures (fails_first c.in_err-file.ensures.fault)))

pub returns-in_err-rest-2-clause-fault : goal.returns-in_err-rest-2-clause-fault
returns-in_err-rest-2-clause-fault c =
    fails_on _ _ _ c.from_residual-in_err-rest-2.ensures.1 (fails_token c.in_ok-rest.ensures.taken (fails_read c.parse_import_kind-kind.ensures (fails_read c.in_ok-file.ensures.taken c.in_err-rest-2.ensures.fault)))

pub returns-clause-taken : goal.returns-clause-taken
returns-clause-taken c =
    import_adds c.in_ok-rest.ensures.taken c.parse_import_kind-kind.ensures c.in_ok-file.ensures.taken c.in_ok-rest-2.ensures.taken c.in_ok-push_node.ensures
