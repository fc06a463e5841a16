use Rattle.pq_syntax.proofs.OptionParts.{setting_reads}
use Rattle.pq_syntax.proofs.Steps.{fails_first, fails_read, fails_token}
use Rattle.pq_syntax.proofs.Failing.{fails_on}
use Rattle.pq_syntax.proofs.parser.options.parse_setting.Goals as goal

pub returns-in_err-parts-clause-fault : goal.returns-in_err-parts-clause-fault
returns-in_err-parts-clause-fault c = fails_on _ _ _ c.from_residual.ensures.1 (fails_first c.in_err-parts.ensures.fault)

pub returns-in_err-rest-clause-fault : goal.returns-in_err-rest-clause-fault
returns-in_err-rest-clause-fault c =
    fails_on _ _ _ c.from_residual-in_err-rest.ensures.1 (fails_read c.in_ok-parts.ensures.taken (fails_first c.in_err-rest.ensures.fault))

pub returns-in_err-constant-clause-fault : goal.returns-in_err-constant-clause-fault
returns-in_err-constant-clause-fault c =
    fails_on _ _ _ c.from_residual-in_err-constant.ensures.1 (fails_read c.in_ok-parts.ensures.taken (fails_token c.in_ok-rest.ensures.taken c.in_err-constant.ensures.fault))

pub returns-clause-taken : goal.returns-clause-taken
returns-clause-taken c = setting_reads _ c.in_ok-parts.ensures.taken c.in_ok-rest.ensures.taken c.in_ok-constant.ensures.taken c.across.ensures
