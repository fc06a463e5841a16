-- The rule set of this crate is a sum that embeds the queries of a schema, so its keys mean what
-- they compile to.
use Rattle.std.proofs.Common.{◌≡◌, ℕ, false, List, refl}
use Rattle.std.specs.Prelude.{◌↔◌}
use Rattle.std.specs.Cmp.Lexicographic.{slice_cmp}
use Rattle.std.specs.Ordering.{nat_cmp}
use Rattle.std.specs.declared.cmp.Ordering.{Ordering}
use Rattle.pq_inputs.specs.Sources.{Sources}
use Rattle.pq_rules.specs.declared.turn.Answer.{Answer}
use Rattle.pq_rules.specs.Turns.{Instance, over}
use Rattle.pq_rules.specs.Value.{Means}
use Rattle.pq_rules.proofs.Rings.{Strict}
use Rattle.pq_schema.specs.Compile.{Compiles}
use Rattle.pq_schema.specs.aux.RuleSet.{text_read, parsed_read, items_read, imports_read, links_read, defs_read, scope_read, schema_rules}
use Rattle.pq_schema.specs.declared.queries.rules.SchemaKey.{SchemaKey}
use Rattle.pq_schema.specs.declared.queries.rules.SchemaKey.TheVariants.{Input, Parse, Items, Imports, Linked, Defs, Scope, Resolved}
use Rattle.pq_schema.specs.declared.queries.rules.SchemaPart.{SchemaPart}
use Rattle.pq_schema.specs.declared.queries.rules.SchemaPart.TheVariants.{Parsing, Itemizing, Importing, LinkingFiles, Defining, Scoping, Resolving}
use Rattle.pq_schema.specs.declared.queries.rules.SchemaValue.{SchemaValue}
use Rattle.pq_schema.specs.declared.queries.rules.SchemaValue.TheVariants as values
use Rattle.pq_schema.specs.SchemaSum.{SchemaSum, SchemaMeans}
use Rattle.pq_schema.proofs.SchemaMeaning.{schema_means}

module _ (order : SchemaKey → SchemaKey → Ordering) (files : Sources)
    (order_is : (f h : List ℕ) → order (Linked f) (Linked h) ≡ slice_cmp nat_cmp f h) (strict : Strict order) where
  abbrev m : Instance SchemaKey SchemaPart SchemaValue
  m = over order schema_rules files

  one_link : (f h : List ℕ) → Linked f ≡ Linked h → f ≡ h
  one_link f h e = cc

  abbrev sum : SchemaSum m false files
  sum = record {
    input = λ f. Input f;
    text_value = λ x. values.Source x;
    text_read = text_read;
    text_back = λ x. refl;
    input_level = λ f. refl;
    input_is = λ f. refl;
    parse = record { key = λ f. Parse f; part = λ q. Parsing; value = λ x. values.Parse x; read = parsed_read; back = λ x. refl; embeds = record { level_is = λ x. refl; start_is = λ x. refl; advance_is = λ q a. refl } };
    items = record { key = λ f. Items f; part = λ q. Itemizing; value = λ x. values.Items x; read = items_read; back = λ x. refl; embeds = record { level_is = λ x. refl; start_is = λ x. refl; advance_is = λ q a. refl } };
    imports = record { key = λ f. Imports f; part = λ q. Importing; value = λ x. values.Imports x; read = imports_read; back = λ x. refl; embeds = record { level_is = λ x. refl; start_is = λ x. refl; advance_is = λ q a. refl } };
    linked = record { key = λ f. Linked f; part = λ q. LinkingFiles q; value = λ x. values.Linked x; read = links_read; back = λ x. refl; embeds = record { level_is = λ x. refl; start_is = λ x. refl; advance_is = λ q a. refl } };
    defs = record { key = λ f. Defs f; part = λ q. Defining; value = λ x. values.Defs x; read = defs_read; back = λ x. refl; embeds = record { level_is = λ x. refl; start_is = λ x. refl; advance_is = λ q a. refl } };
    scope = record { key = λ f. Scope f; part = λ q. Scoping q; value = λ x. values.Scope x; read = scope_read; back = λ x. refl; embeds = record { level_is = λ x. refl; start_is = λ x. refl; advance_is = λ q a. refl } };
    resolved = record { key = λ f. Resolved f; part = λ q. Resolving q; value = λ x. values.Resolved x; embeds = record { level_is = λ x. refl; start_is = λ x. refl; advance_is = λ q a. refl } };
    ring_read = λ r. refl;
    one_link = one_link;
    order_is = order_is;
    strict = strict.not_both;
  }

  t : SchemaMeans m false files sum
  t = schema_means m false files sum

  -- the answers of the rule set are exactly what its keys compile to
  pub means_compiles : (k : SchemaKey) (a : Answer SchemaKey SchemaValue) → Means m k a ↔ Compiles false files k a
  means_compiles (Input f) a = t.input f a
  means_compiles (Parse f) a = t.parse f a
  means_compiles (Items f) a = t.items f a
  means_compiles (Imports f) a = t.imports f a
  means_compiles (Linked f) a = t.linked f a
  means_compiles (Defs f) a = t.defs f a
  means_compiles (Scope f) a = t.scope f a
  means_compiles (Resolved f) a = t.resolved f a
