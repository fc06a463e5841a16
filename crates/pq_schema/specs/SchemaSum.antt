-- Sums of queries that embed the seven queries of a schema, and what their keys mean. The public law
-- `schema_in_rules` says this of every such sum, so a larger sum that embeds them has it too.
use Rattle.std.specs.Prelude.{ℕ, Bool, ◌≡◌, ◌↔◌, List, Option}
use Rattle.std.specs.Cmp.Lexicographic.{slice_cmp}
use Rattle.std.specs.Ordering.{nat_cmp}
use Rattle.std.specs.declared.cmp.Ordering.TheVariants.{Less}
use Rattle.pq_inputs.specs.Sources.{Sources, file_in}
use Rattle.pq_rules.specs.declared.turn.Answer.{Answer}
use Rattle.pq_rules.specs.declared.turn.Answer.TheVariants.{Value, Cycle}
use Rattle.pq_rules.specs.Turns.{Instance}
use Rattle.pq_rules.specs.Value.{Means}
use Rattle.pq_rules.specs.InSum.{InSum, ReadInSum}
use Rattle.pq_links.specs.Files.{read_in, items_in, nodes_in, graph_of}
use Rattle.pq_links.specs.LinkedKeys.{LinkedIs}
use Rattle.pq_links.specs.Visibility.{no_links}
use Rattle.pq_links.specs.aux.Queries.{parse_level, items_level, imports_level, linked_level, parse_starts, parse_advances, items_starts, items_advances, imports_starts, imports_advances, linked_starts, linked_advances}
use Rattle.pq_schema.specs.ScopeContents.{Scope}
use Rattle.pq_schema.specs.Compile.{defs_at, IsScope, AreResolved}
use Rattle.pq_schema.specs.aux.Queries.{defs_level, scope_level, resolved_level, defs_starts, defs_advances, scope_starts, scope_advances, resolved_starts, resolved_advances}
use Rattle.pq_schema.specs.declared.queries.resolved.ResolvedReference.{ResolvedReference}

-- `SchemaSum m loose files` is that the rule set at the sources `files`, `m`, embeds the seven
-- queries, and that its parse reads braces if `loose`
pub record SchemaSum {K P V : Type 0} (m : Instance K P V) (loose : Bool) (files : Sources) : Type 0 where
  -- an input is the text of its file
  pub input : List ℕ → K
  pub text_value : Option (List ℕ) → V
  pub text_read : Answer K V → Option (List ℕ)
  pub text_back : (x : Option (List ℕ)) → text_read (Value (text_value x)) ≡ x
  pub input_level : (f : List ℕ) → m.level (input f) ≡ 0
  pub input_is : (f : List ℕ) → m.input (input f) ≡ text_value (file_in files f).text
  -- the queries
  pub parse : ReadInSum m parse_level (parse_starts input) (λ key read q a. parse_advances loose (text_read a))
  pub items : ReadInSum m items_level (items_starts parse.key) (λ key read q a. items_advances (parse.read a))
  pub imports : ReadInSum m imports_level (imports_starts items.key) (λ key read q a. imports_advances (items.read a))
  pub linked : ReadInSum m linked_level (linked_starts imports.key) (λ key read q a. linked_advances key (imports.read a) (read a) q)
  pub defs : ReadInSum m defs_level (defs_starts items.key) (λ key read q a. defs_advances (nodes_in (items.read a)))
  pub scope : ReadInSum m scope_level (scope_starts linked.key) (λ key read q a. scope_advances defs.key (linked.read a) (defs.read a) q)
  pub resolved : InSum m resolved_level (resolved_starts scope.key) (λ key q a. resolved_advances items.key (scope.read a) (nodes_in (items.read a)) q)
  -- a cycle reads as no links
  pub ring_read : (ring : List K) → linked.read (Cycle ring) ≡ no_links
  -- the keys of links are in the order of their files
  pub one_link : (f h : List ℕ) → linked.key f ≡ linked.key h → f ≡ h
  pub order_is : (f h : List ℕ) → m.order (linked.key f) (linked.key h) ≡ slice_cmp nat_cmp f h
  -- of two keys at most one comes before the other
  pub strict : (x y : K) → m.order x y ≡ Less → m.order y x ≡ Less → ⊥

-- `SchemaMeans m loose files s` is that the answers of the sum `s` are what the files compile to:
-- `Means m key a` holds exactly of these answers `a`
pub record SchemaMeans {K P V : Type 0} (m : Instance K P V) (loose : Bool) (files : Sources) (s : SchemaSum m loose files) : Type 0 where
  pub input : (f : List ℕ) (a : Answer K V) → Means m (s.input f) a ↔ (a ≡ Value (s.text_value (file_in files f).text))
  pub parse : (f : List ℕ) (a : Answer K V) → Means m (s.parse.key f) a ↔ (a ≡ Value (s.parse.value (read_in loose files f)))
  pub items : (f : List ℕ) (a : Answer K V) → Means m (s.items.key f) a ↔ (a ≡ Value (s.items.value (items_in loose files f)))
  pub imports : (f : List ℕ) (a : Answer K V) → Means m (s.imports.key f) a ↔ (a ≡ Value (s.imports.value (graph_of loose files f)))
  pub linked : (f : List ℕ) (a : Answer K V) → Means m (s.linked.key f) a ↔ LinkedIs (graph_of loose files) s.linked.key s.linked.value f a
  pub defs : (f : List ℕ) (a : Answer K V) → Means m (s.defs.key f) a ↔ (a ≡ Value (s.defs.value (defs_at loose files f)))
  pub scope : (f : List ℕ) (a : Answer K V) → Means m (s.scope.key f) a ↔ ((w : Scope) × (a ≡ Value (s.scope.value w)) × IsScope loose files f w)
  pub resolved : (f : List ℕ) (a : Answer K V) → Means m (s.resolved.key f) a ↔ ((rs : List ResolvedReference) × (a ≡ Value (s.resolved.value rs)) × AreResolved loose files f rs)
