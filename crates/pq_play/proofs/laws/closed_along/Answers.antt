use Rattle.pq_play.proofs.Leading.{leads_closed}
use Rattle.pq_play.proofs.laws.closed_along.Goals as goal

pub returns : goal.returns
returns g c = λ room events w v s. leads_closed room g.R.Key.Ord.cmp (g.R.Rules.machine c.args._rules.now) c.args._rules.now events w v s
