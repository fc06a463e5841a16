use Rattle.pq_rules.specs.Turns.{over}
use Rattle.pq_rules.proofs.Characterisation.{means_passed}
use Rattle.pq_rules.proofs.Order.{strict}
use Rattle.pq_rules.proofs.laws.cycle_passes_on.Goals as goal

pub returns : goal.returns
returns g c = record {
  passed = λ files k q r up waits means.
      means_passed (over g.R.Key.Ord.cmp (g.R.Rules.machine c.args._rules.now) files) (strict g.R.Key.Ord.cmp g.met.R.Key.Ord.total) k q r up waits means;
}
