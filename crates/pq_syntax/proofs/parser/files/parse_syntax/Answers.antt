use Rattle.pq_syntax.proofs.Rules.{takes_then}
use Rattle.pq_syntax.proofs.Steps.{fails_first, fails_then, fails_token}
use Rattle.pq_syntax.proofs.Failing.{fails_on}
use Rattle.pq_syntax.proofs.parser.files.parse_syntax.Goals as goal

pub returns-in_err-rest-clause-fault : goal.returns-in_err-rest-clause-fault
returns-in_err-rest-clause-fault c = fails_on _ _ _ c.from_residual.ensures.1 (fails_first c.in_err-rest.ensures.fault)

pub returns-in_err-rest-2-clause-fault : goal.returns-in_err-rest-2-clause-fault
returns-in_err-rest-2-clause-fault c =
    fails_on _ _ _ c.from_residual-in_err-rest-2.ensures.1 (fails_token c.in_ok-rest.ensures.taken (fails_first c.in_err-rest-2.ensures.fault))

pub returns-in_err-rest-3-clause-fault : goal.returns-in_err-rest-3-clause-fault
returns-in_err-rest-3-clause-fault c =
    fails_on _ _ _ c.from_residual-in_err-rest-3.ensures.1 (fails_token c.in_ok-rest.ensures.taken (fails_token c.in_ok-rest-2.ensures.taken (fails_first c.in_err-rest-3.ensures.fault)))

pub returns-in_err-rest-4-clause-fault : goal.returns-in_err-rest-4-clause-fault
returns-in_err-rest-4-clause-fault c =
    fails_on _ _ _ c.from_residual-in_err-rest-4.ensures.1 (fails_token c.in_ok-rest.ensures.taken (fails_token c.in_ok-rest-2.ensures.taken (fails_then c.in_ok-rest-3.ensures.taken c.in_err-rest-4.ensures.fault)))

pub returns-clause-taken : goal.returns-clause-taken
returns-clause-taken c =
    record {
      parse = _;
      takes = takes_then c.in_ok-rest.ensures.taken.takes
          (takes_then c.in_ok-rest-2.ensures.taken.takes (takes_then c.in_ok-rest-3.ensures.taken.takes c.in_ok-rest-4.ensures.taken.takes));
    }
