use Rattle.pq_rules.specs.Turns.{over}
use Rattle.pq_rules.proofs.Characterisation.{means_ring}
use Rattle.pq_rules.proofs.Order.{strict}
use Rattle.pq_rules.proofs.laws.keys_that_wait_round.Goals as goal

pub returns : goal.returns
returns g c = record {
  ring = λ files z zs up round least x i.
      means_ring (over g.R.Key.Ord.cmp (g.R.Rules.machine c.args._rules.now) files) (strict g.R.Key.Ord.cmp g.met.R.Key.Ord.total) z zs up round least x i;
}
