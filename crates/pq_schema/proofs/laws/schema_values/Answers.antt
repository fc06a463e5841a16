use Rattle.std.proofs.Common.{refl}
use Rattle.pq_rules.proofs.Order.{strict}
use Rattle.pq_schema.specs.contracts.queries.rules.SchemaKeyOrd.TheImpl as key_order
use Rattle.pq_schema.specs.contracts.queries.rules.SchemaKeyOrd.TheImpl.Laws.{total-law}
use Rattle.pq_schema.proofs.RuleSetMeaning.{means_compiles}
use Rattle.pq_schema.proofs.laws.schema_values.Goals as goal

pub returns : goal.returns
returns c = record { means = λ files. means_compiles key_order.ghosts.cmp files (λ f h. refl) (strict key_order.ghosts.cmp total-law) }
