use Rattle.pq_syntax.proofs.Rules.{takes_then}
use Rattle.pq_syntax.proofs.Steps.{fails_first, fails_read, fails_token}
use Rattle.pq_syntax.proofs.Failing.{fails_on}
use Rattle.pq_syntax.proofs.parser.services.parse_in_parentheses.Goals as goal

pub returns-in_err-rest-clause-fault : goal.returns-in_err-rest-clause-fault
returns-in_err-rest-clause-fault c = fails_on _ _ _ c.from_residual.ensures.1 (fails_first c.in_err-rest.ensures.fault)

pub returns-in_err-kind-clause-fault : goal.returns-in_err-kind-clause-fault
returns-in_err-kind-clause-fault c =
    fails_on _ _ _ c.from_residual-in_err-kind.ensures.1 (fails_token c.in_ok-rest.ensures.taken (fails_first c.in_err-kind.ensures.fault))

pub returns-in_err-rest-2-clause-fault : goal.returns-in_err-rest-2-clause-fault
returns-in_err-rest-2-clause-fault c =
    fails_on _ _ _ c.from_residual-in_err-rest-2.ensures.1 (fails_token c.in_ok-rest.ensures.taken (fails_read c.in_ok-kind.ensures.taken c.in_err-rest-2.ensures.fault))

pub returns-clause-taken : goal.returns-clause-taken
returns-clause-taken c =
    record {
      parse = _;
      takes = takes_then c.in_ok-rest.ensures.taken.takes
          (takes_then c.in_ok-kind.ensures.taken.takes c.in_ok-rest-2.ensures.taken.takes);
      is = c.in_ok-kind.ensures.taken.is;
    }
