use Rattle.pq_syntax.proofs.Bounds.{range_reads}
use Rattle.pq_syntax.proofs.Steps.{fails_first, fails_read}
use Rattle.pq_syntax.proofs.Failing.{fails_on}
use Rattle.pq_syntax.proofs.parser.reserved.parse_range.Goals as goal

pub returns-in_err-first-clause-fault : goal.returns-in_err-first-clause-fault
returns-in_err-first-clause-fault c = fails_on _ _ _ c.from_residual.ensures.1 (fails_first c.in_err-first.ensures.fault)

pub returns-in_err-last-clause-fault : goal.returns-in_err-last-clause-fault
returns-in_err-last-clause-fault c =
    fails_on _ _ _ c.from_residual-in_err-last.ensures.1 (fails_read c.in_ok-first.ensures.taken c.in_err-last.ensures.fault)

pub returns-clause-taken : goal.returns-clause-taken
returns-clause-taken c = range_reads _ c.in_ok-first.ensures.taken c.in_ok-last.ensures.taken c.across-span.ensures
