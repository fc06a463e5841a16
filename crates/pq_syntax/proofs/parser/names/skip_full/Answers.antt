use Rattle.std.proofs.lemmas.Result.{IfOk-weaker, IfErr-weaker}
use Rattle.pq_syntax.proofs.Steps.{fails_first, fails_token, passes_token}
use Rattle.pq_syntax.proofs.Failing.{fails_on}
use Rattle.pq_syntax.proofs.parser.names.skip_full.Goals as goal

pub returns-in_err-rest-clause-fault : goal.returns-in_err-rest-clause-fault
returns-in_err-rest-clause-fault c = fails_on _ _ _ c.from_residual.ensures.1 (fails_first c.in_err-rest.ensures.fault)

pub returns-clause-taken : goal.returns-clause-taken
returns-clause-taken c = IfOk-weaker _ _ _ (λ rest. passes_token c.in_ok-rest.ensures.taken) c.skip_dotted.ensures.taken

pub returns-clause-fault : goal.returns-clause-fault
returns-clause-fault c = IfErr-weaker _ _ _ (λ e. fails_token c.in_ok-rest.ensures.taken) c.skip_dotted.ensures.fault
