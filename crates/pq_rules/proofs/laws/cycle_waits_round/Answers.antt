use Rattle.pq_rules.specs.Turns.{over}
use Rattle.pq_rules.proofs.Characterisation.{cycle_waits, cycle_round}
use Rattle.pq_rules.proofs.laws.cycle_waits_round.Goals as goal

pub returns-clause-waits : goal.returns-clause-waits
returns-clause-waits g c = λ files k r up means.
    cycle_waits (over g.R.Key.Ord.cmp (g.R.Rules.machine c.args._rules.now) files) k r up means

pub returns-clause-round : goal.returns-clause-round
returns-clause-round g c = λ files k r up means.
    cycle_round (over g.R.Key.Ord.cmp (g.R.Rules.machine c.args._rules.now) files) k r up means
