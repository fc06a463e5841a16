use Rattle.pq_syntax.proofs.Shorter.{begins_shorter}
use Rattle.pq_syntax.proofs.Steps.{adding_begins, adding_ends, adding_fails, adding_goes}
use Rattle.pq_syntax.proofs.Failing.{fails_on}
use Rattle.pq_syntax.proofs.parser.services.parse_service_items.Goals as goal

pub items-init : goal.items-init
items-init c = adding_begins _ _

pub items-preserved : goal.items-preserved
items-preserved c = adding_goes c.items.invariant c.in_ok-rest-in-Some.ensures.taken

pub items-smaller : goal.items-smaller
items-smaller c = begins_shorter c.in_ok-rest-in-Some.ensures.taken

pub returns-in_err-rest-in-Some-clause-fault : goal.returns-in_err-rest-in-Some-clause-fault
returns-in_err-rest-in-Some-clause-fault c =
    fails_on _ _ _ c.from_residual.ensures.1 (adding_fails c.items.invariant c.in_err-rest-in-Some.ensures.fault)

pub returns-in-None-clause-taken : goal.returns-in-None-clause-taken
returns-in-None-clause-taken c = adding_ends c.items.invariant c.in-None.ensures.in_first
