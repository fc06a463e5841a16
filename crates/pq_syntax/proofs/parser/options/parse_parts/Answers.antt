use Rattle.std.proofs.Common.{ap, is_ok}
use Rattle.std.proofs.ResultArms.{chosen}
use Rattle.pq_syntax.proofs.Separated.{separated_listed}
use Rattle.pq_syntax.proofs.Steps.{fails_first, fails_read}
use Rattle.pq_syntax.proofs.Failing.{fails_on}
use Rattle.pq_syntax.proofs.parser.options.parse_parts.Goals as goal

pub returns-in_err-first-clause-fault : goal.returns-in_err-first-clause-fault
returns-in_err-first-clause-fault c = fails_on _ _ _ c.from_residual.ensures.1 (fails_first c.in_err-first.ensures.fault)

pub returns-in_err-rest-clause-fault : goal.returns-in_err-rest-clause-fault
returns-in_err-rest-clause-fault c =
    fails_on _ _ _ c.from_residual-in_err-rest.ensures.1 (fails_read c.in_ok-first.ensures.taken c.in_err-rest.ensures.fault)

pub returns-clause-taken : goal.returns-clause-taken
returns-clause-taken c =
    rw c.new.ensures (separated_listed c.in_ok-first.ensures.taken c.new-parts.ensures.items
    (chosen _ _ _ _ c.push.ensures.items (ap is_ok c.in_ok-push.was)) c.in_ok-rest.ensures.taken)
