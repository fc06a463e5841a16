use Rattle.pq_rules.specs.Turns.{over}
use Rattle.pq_rules.proofs.Uniqueness.{means_one}
use Rattle.pq_rules.proofs.Order.{strict}
use Rattle.pq_rules.proofs.laws.one_value.Goals as goal

pub returns : goal.returns
returns g c = record {
  one = λ files key a b p q.
      means_one (over g.R.Key.Ord.cmp (g.R.Rules.machine c.args._rules.now) files) (strict g.R.Key.Ord.cmp g.met.R.Key.Ord.total) key a b p q;
}
