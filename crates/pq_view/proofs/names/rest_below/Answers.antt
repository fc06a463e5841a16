use Rattle.pq_view.proofs.BelowRoots.{rest_is}
use Rattle.pq_view.proofs.names.rest_below.Goals as goal

pub returns-in-Some : goal.returns-in-Some
returns-in-Some c = record { rest = rest_is c.args.path.now c.args.root.now c.in-Some.rest c.strip_prefix-in-Some.result c.in-Some.ensures.cases c.strip_prefix-in-Some.ensures.cases }
