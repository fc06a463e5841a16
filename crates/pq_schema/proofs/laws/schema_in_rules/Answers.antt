use Rattle.pq_rules.specs.Turns.{over}
use Rattle.pq_schema.proofs.SchemaMeaning.{schema_means}
use Rattle.pq_schema.proofs.laws.schema_in_rules.Goals as goal

pub returns : goal.returns
returns g c = record { means = λ loose files s. schema_means (over g.R.Key.Ord.cmp (g.R.Rules.machine c.args._rules.now) files) loose files s }
