-- Sums of queries that embed the queries of a file's checks and diagnostics beside those of a
-- schema, and what their keys mean. The public law `checks_in_rules` says this of every such sum.
use Rattle.std.specs.Prelude.{ℕ, Bool, ◌≡◌, ◌↔◌, List, map, Option, Some, None}
use Rattle.pq_inputs.specs.Sources.{Sources}
use Rattle.pq_rules.specs.declared.turn.Answer.{Answer}
use Rattle.pq_rules.specs.declared.turn.Answer.TheVariants.{Value, Cycle}
use Rattle.pq_rules.specs.Turns.{Instance}
use Rattle.pq_rules.specs.Value.{Means}
use Rattle.pq_rules.specs.InSum.{InSum, ReadInSum}
use Rattle.pq_links.specs.declared.links.Links.{Links}
use Rattle.pq_schema.specs.SchemaSum.{SchemaSum}
use Rattle.pq_schema.specs.declared.queries.resolved.ResolvedReference.{ResolvedReference}
use Rattle.pq_checks.specs.Answers.{CheckWords}
use Rattle.pq_checks.specs.Compile.{AreFaults}
use Rattle.pq_checks.specs.Diagnostics.{AreDiagnostics}
use Rattle.pq_checks.specs.aux.DiagnosticsTurns.{diagnostics_level, diagnostics_starts, diagnostics_advances}
use Rattle.pq_checks.specs.aux.Queries.{check_level, check_starts, check_advances}
use Rattle.pq_checks.specs.declared.errors.diagnostic.Diagnosed.{Diagnosed}
use Rattle.pq_checks.specs.declared.errors.fault.Fault.{Fault}

-- `words_of s referred ring` is what the sum `s` offers the query, where `referred` and `ring` read
-- the resolved references and the files of a cycle of an answer
abbrev pub words_of : {K P V : Type 0} {m : Instance K P V} {loose : Bool} {files : Sources} → SchemaSum m loose files
    → (Answer K V → List ResolvedReference) → (Answer K V → Option (List (List ℕ))) → CheckWords K (Answer K V)
words_of s referred ring = record {
  items = s.items.key;
  imports = s.imports.key;
  linked = s.linked.key;
  defs = s.defs.key;
  scope = s.scope.key;
  resolved = s.resolved.key;
  itemed = s.items.read;
  imported = s.imports.read;
  ring = ring;
  defined = s.defs.read;
  scoped = s.scope.read;
  referred = referred;
}

-- `ChecksSum m loose files s` is that the rule set at the sources `files`, `m`, which embeds the queries
-- of a schema by `s`, embeds the queries of checks and of diagnostics
pub record ChecksSum {K P V : Type 0} (m : Instance K P V) (loose : Bool) (files : Sources) (s : SchemaSum m loose files) : Type 0 where
  -- what is read of an answer: resolved references, and the files of a cycle of links
  pub referred_read : Answer K V → List ResolvedReference
  pub ring_files : Answer K V → Option (List (List ℕ))
  pub referred_back : (x : List ResolvedReference) → referred_read (Value (s.resolved.value x)) ≡ x
  pub ring_back : (ring : List (List ℕ)) → ring_files (Cycle (map s.linked.key ring)) ≡ Some ring
  pub no_ring : (l : Links) → ring_files (Value (s.linked.value l)) ≡ None
  -- the queries
  pub checks : ReadInSum m check_level (check_starts s.items.key) (λ key read q a. check_advances (words_of s referred_read ring_files) q a)
  pub diagnostics : InSum m diagnostics_level (diagnostics_starts s.parse.key) (λ key q a. diagnostics_advances checks.key (checks.read a) (s.parse.read a) q)

-- `ChecksMeans m loose files s c` is that the answers of the checks and of the diagnostics of a file are
-- what the sources say of its errors: `Means m key a` holds exactly of these answers `a`
pub record ChecksMeans {K P V : Type 0} (m : Instance K P V) (loose : Bool) (files : Sources) (s : SchemaSum m loose files) (c : ChecksSum m loose files s) : Type 0 where
  pub checks : (f : List ℕ) (a : Answer K V) → Means m (c.checks.key f) a ↔ ((fs : List Fault) × (a ≡ Value (c.checks.value fs)) × AreFaults loose files f fs)
  pub diagnostics : (f : List ℕ) (a : Answer K V) → Means m (c.diagnostics.key f) a ↔ ((d : Diagnosed) × (a ≡ Value (c.diagnostics.value d)) × AreDiagnostics loose files f d)
