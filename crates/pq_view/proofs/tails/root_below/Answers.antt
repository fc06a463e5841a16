use Rattle.pq_view.proofs.Nearness.{no_root, root_is}
use Rattle.pq_view.proofs.tails.root_below.Goals as goal

pub returns-in-Some : goal.returns-in-Some
returns-in-Some c = record { root = root_is c.args.path.now c.args.name.now c.in-Some.front c.strip_suffix-in-Some.result c.in-Some.ensures.cases c.strip_suffix-in-Some.ensures.cases }

pub returns-in-None : goal.returns-in-None
returns-in-None c = record { root = no_root c.args.path.now c.args.name.now c.in-None.ensures.cases }
