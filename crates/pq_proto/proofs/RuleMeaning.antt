-- What the keys of the rule set mean, with the order of its keys: the laws of `src/rule_laws.rt`.
use Rattle.std.proofs.Common.{◌≡◌, ℕ, Bool, List, refl}
use Rattle.std.specs.Prelude.{◌↔◌}
use Rattle.std.specs.Cmp.Lexicographic.{slice_cmp}
use Rattle.std.specs.Ordering.{nat_cmp}
use Rattle.pq_inputs.specs.Sources.{Sources}
use Rattle.pq_rules.specs.declared.turn.Answer.{Answer}
use Rattle.pq_rules.specs.Turns.{over}
use Rattle.pq_rules.specs.Value.{Means}
use Rattle.pq_rules.proofs.Order.{strict}
use Rattle.pq_rules.proofs.Rings.{Strict}
use Rattle.pq_schema.specs.SchemaSum.{SchemaMeans}
use Rattle.pq_schema.proofs.SchemaMeaning.{schema_means}
use Rattle.pq_checks.specs.ChecksSum.{ChecksMeans}
use Rattle.pq_checks.proofs.ChecksAnswered.{checks_mean}
use Rattle.pq_proto.specs.Compile.{Compiles}
use Rattle.pq_proto.specs.aux.RuleSet.{proto_rules}
use Rattle.pq_proto.specs.contracts.key.ProtoKeyOrd.TheImpl as key_order
use Rattle.pq_proto.specs.contracts.key.ProtoKeyOrd.TheImpl.Laws.{total-law}
use Rattle.pq_proto.specs.declared.key.ProtoKey.{ProtoKey}
use Rattle.pq_proto.specs.declared.key.ProtoKey.TheVariants as keys
use Rattle.pq_proto.specs.declared.value.ProtoValue.{ProtoValue}
use Rattle.pq_proto.proofs.OneCompilation.{answered, compiles_means, compiles_one}
use Rattle.pq_proto.proofs.ProtoMeaning.{checks, m, means_compiles, schema}

abbrev A : Type 0
A = Answer ProtoKey ProtoValue

order_is : (f h : List ℕ) → key_order.ghosts.cmp (keys.Linked f) (keys.Linked h) ≡ slice_cmp nat_cmp f h
order_is f h = refl

one_way : Strict key_order.ghosts.cmp
one_way = strict key_order.ghosts.cmp total-law

module _ (loose : Bool) (files : Sources) where
  schema_is : SchemaMeans (m key_order.ghosts.cmp loose files order_is one_way) loose files (schema key_order.ghosts.cmp loose files order_is one_way)
  schema_is = schema_means (m key_order.ghosts.cmp loose files order_is one_way) loose files (schema key_order.ghosts.cmp loose files order_is one_way)

  checks_are : ChecksMeans (m key_order.ghosts.cmp loose files order_is one_way) loose files (schema key_order.ghosts.cmp loose files order_is one_way) (checks key_order.ghosts.cmp loose files order_is one_way)
  checks_are =
      checks_mean (m key_order.ghosts.cmp loose files order_is one_way) loose files (schema key_order.ghosts.cmp loose files order_is one_way)
      (checks key_order.ghosts.cmp loose files order_is one_way) schema_is

  -- what a key means is exactly what it compiles to
  pub proto_means : (k : ProtoKey) (a : A) → Means (over key_order.ghosts.cmp (proto_rules loose) files) k a ↔ Compiles loose files k a
  proto_means k a = (
    means_compiles key_order.ghosts.cmp loose files order_is one_way schema_is checks_are k a,
    compiles_means key_order.ghosts.cmp loose files order_is one_way schema_is checks_are k a,
  )

  -- a key compiles to one answer
  pub proto_one : (k : ProtoKey) (a b : A) → Compiles loose files k a → Compiles loose files k b → a ≡ b
  proto_one = compiles_one key_order.ghosts.cmp loose files order_is one_way schema_is checks_are

  -- each key compiles to an answer
  pub proto_some : (k : ProtoKey) → (a : A) × Compiles loose files k a
  proto_some k =
      let b = answered key_order.ghosts.cmp loose files order_is one_way schema_is checks_are k in
      (b.0, means_compiles key_order.ghosts.cmp loose files order_is one_way schema_is checks_are k b.0 b.1)
