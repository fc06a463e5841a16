use Rattle.pq_rules.specs.Turns.{over}
use Rattle.pq_schema.proofs.SchemaMeaning.{schema_means}
use Rattle.pq_checks.proofs.ChecksAnswered.{checks_mean}
use Rattle.pq_checks.proofs.rule_laws.checks_in_rules.Goals as goal

pub returns : goal.returns
returns g c = record {
  means = λ loose files s q.
      let m = over g.R.Key.Ord.cmp (g.R.Rules.machine c.args._rules.now) files in
      checks_mean m loose files s q (schema_means m loose files s);
}
