-- In every rule set in which the queries of checks and of diagnostics are embedded beside those of a
-- schema, what the sources say of the errors of a file is the answer of its checks: the other half
-- of the law `checks_in_rules`. Each file has an answer, and the sources say one thing of its errors.
use Rattle.std.proofs.Common.{◌≡◌, ℕ, ◌<◌, Bool, true, false, List, [], ◌∷◌, map, Option, Some, None, refl, sym, ap, subst, ◌∙◌, inl, inr, arith}
use Rattle.std.specs.Prelude.{unwrap_or}
use Rattle.pq_inputs.specs.Sources.{Sources}
use Rattle.pq_rules.specs.declared.turn.Answer.{Answer}
use Rattle.pq_rules.specs.declared.turn.Answer.TheVariants.{Value, Cycle}
use Rattle.pq_rules.specs.Turns.{Instance}
use Rattle.pq_rules.specs.Value.{Means}
use Rattle.pq_rules.proofs.Uniqueness.{means_one}
use Rattle.pq_links.specs.Files.{graph_of, items_in, read_in}
use Rattle.pq_links.specs.ImportGraph.{Graph, file_of, IsRingOf}
use Rattle.pq_links.specs.declared.files.ParsedFile.{ParsedFile}
use Rattle.pq_links.specs.declared.links.Import.{Import}
use Rattle.pq_links.proofs.GraphLemmas.{good_bad, next_one}
use Rattle.pq_links.proofs.NameKinds.{IfImportsIn}
use Rattle.pq_schema.specs.Compile.{IsScope, AreResolved}
use Rattle.pq_schema.specs.ScopeContents.{Scope}
use Rattle.pq_schema.specs.SchemaSum.{SchemaSum, SchemaMeans}
use Rattle.pq_schema.specs.declared.define.definitions.Definition.{Definition}
use Rattle.pq_schema.specs.declared.queries.resolved.ResolvedReference.{ResolvedReference}
use Rattle.pq_schema.specs.declared.scope.scope.FileDefs.{FileDefs}
use Rattle.pq_schema.proofs.BadFiles.{ring_bad}
use Rattle.pq_rules.specs.Relations.{Each}
use Rattle.pq_checks.specs.Answers.{CheckWords}
use Rattle.pq_checks.specs.ChecksSum.{ChecksSum, ChecksMeans, words_of}
use Rattle.pq_checks.specs.Compile.{AreSurroundings, IsRingAt, AreFaults, file_faults}
use Rattle.pq_checks.specs.Diagnostics.{AreDiagnostics, diagnosed, has_tree}
use Rattle.pq_checks.specs.Surroundings.{Surroundings, other_files}
use Rattle.pq_checks.specs.aux.CheckKinds.{AsksIn, CheckPartIn, check_starts_in, check_advances_in}
use Rattle.pq_checks.specs.aux.DiagnosticsTurns.{diagnostics_level, diagnostics_starts, diagnostics_advances, diagnostics_left, diagnostics_falls, file_turn}
use Rattle.pq_checks.specs.aux.Falls.{check_falls}
use Rattle.pq_checks.specs.aux.Queries.{check_level, check_left, check_starts, check_advances}
use Rattle.pq_checks.specs.declared.errors.fault.Fault.{Fault}
use Rattle.pq_checks.specs.declared.errors.diagnostic.Diagnosed.{Diagnosed}
use Rattle.pq_checks.specs.declared.queries.diagnostics.DiagnosticsPart.{DiagnosticsPart}
use Rattle.pq_checks.specs.declared.queries.diagnostics.DiagnosticsPart.TheVariants.{ReadChecks, ReadFile}
use Rattle.pq_checks.specs.declared.around.surroundings.Imported.{Imported}
use Rattle.pq_checks.proofs.EachAnswered.{Asks, HasAnswer, has_answer}
use Rattle.pq_checks.proofs.ChecksMeaning.{checks_are, diagnostics_are}
use Rattle.pq_checks.proofs.Existence.{linked_or_ring, resolved_exist, scope_exists}

-- ---- records, from their fields

abbrev around : List Imported → Option (List (List ℕ)) → Option (List ℕ) → List Definition → List FileDefs → List ResolvedReference → Surroundings
around imported ring next definitions others references = record {
  imported = imported;
  ring = ring;
  next = next;
  definitions = definitions;
  others = others;
  references = references;
}

-- ---- names of any kind

abbrev Any : List ℕ → Type 0
Any n = Unit {0}

any_each : (is : List Import) → Each Any (map file_of is)
any_each [] = tt
any_each (x ∷ xs) = (tt, any_each xs)

any_imports : (o : Option (List Import)) → IfImportsIn Any o
any_imports None = tt
any_imports (Some is) = any_each is

module _ {K P V : Type 0} (m : Instance K P V) (loose : Bool) (files : Sources) (s : SchemaSum m loose files) (c : ChecksSum m loose files s) (t : SchemaMeans m loose files s) where
  abbrev g : Graph
  g = graph_of loose files

  abbrev w : CheckWords K (Answer K V)
  w = words_of s c.referred_read c.ring_files

  one : (k : K) (a b : Answer K V) → Means m k a → Means m k b → a ≡ b
  one = means_one m (record { not_both = s.strict })

  -- ---- what the sources say of the errors of a file is one

  pub scope_one : (f : List ℕ) (x y : Scope) → IsScope loose files f x → IsScope loose files f y → x ≡ y
  scope_one f x y p q =
      let a : Answer K V = Value (s.scope.value x) in
      let b : Answer K V = Value (s.scope.value y) in
      sym (s.scope.back x) ∙ ap s.scope.read (one (s.scope.key f) a b ((t.scope f a).1 (x, refl, p)) ((t.scope f b).1 (y, refl, q))) ∙ s.scope.back y

  pub resolved_one : (f : List ℕ) (x y : List ResolvedReference) → AreResolved loose files f x → AreResolved loose files f y → x ≡ y
  resolved_one f x y p q =
      let a : Answer K V = Value (s.resolved.value x) in
      let b : Answer K V = Value (s.resolved.value y) in
      sym (c.referred_back x) ∙ ap c.referred_read (one (s.resolved.key f) a b ((t.resolved f a).1 (x, refl, p)) ((t.resolved f b).1 (y, refl, q))) ∙ c.referred_back y

  ring_one : (f : List ℕ) (x y : List (List ℕ)) → IsRingOf g f x → IsRingOf g f y → x ≡ y
  ring_one f x y p q =
      let a : Answer K V = Cycle (map s.linked.key x) in
      let b : Answer K V = Cycle (map s.linked.key y) in
      let same : Some x ≡ Some y =
      sym (c.ring_back x) ∙ ap c.ring_files (one (s.linked.key f) a b ((t.linked f a).1 (x, refl, p)) ((t.linked f b).1 (y, refl, q))) ∙ c.ring_back y in
      ap (λ (o : Option (List (List ℕ))). unwrap_or o []) same

  ring_at_one : (f : List ℕ) (r : Option (List (List ℕ))) (n : Option (List ℕ)) (r' : Option (List (List ℕ))) (n' : Option (List ℕ))
      → IsRingAt g f r n → IsRingAt g f r' n' → (r ≡ r') × (n ≡ n')
  ring_at_one f None None None None p q = (refl, refl)
  ring_at_one f None None (Some r') (Some n') p q = absurd (good_bad g f p (ring_bad g f r' q.0))
  ring_at_one f (Some r) (Some n) None None p q = absurd (good_bad g f q (ring_bad g f r p.0))
  ring_at_one f (Some r) (Some n) (Some r') (Some n') p q = (ap (λ x. Some x) (ring_one f r r' p.0 q.0), ap (λ x. Some x) (next_one g f n n' p.1 q.1))
  ring_at_one f None (Some n) r' n' p q = absurd p
  ring_at_one f (Some r) None r' n' p q = absurd p
  ring_at_one f r n None (Some n') p q = absurd q
  ring_at_one f r n (Some r') None p q = absurd q

  surroundings_one : (f : List ℕ) (x y : Surroundings) → AreSurroundings loose files f x → AreSurroundings loose files f y → x ≡ y
  surroundings_one f x y p q =
      let ring = ring_at_one f x.ring x.next y.ring y.next p.ring_is q.ring_is in
      let others : x.others ≡ y.others =
      p.others_are.2 ∙ ap (λ (z : Scope). other_files f z) (scope_one f p.others_are.0 q.others_are.0 p.others_are.1 q.others_are.1) ∙ sym q.others_are.2 in
      ap (λ z. around z x.ring x.next x.definitions x.others x.references) (p.imported_are ∙ sym q.imported_are)
      ∙ ap (λ z. around y.imported z x.next x.definitions x.others x.references) ring.0
      ∙ ap (λ z. around y.imported y.ring z x.definitions x.others x.references) ring.1
      ∙ ap (λ z. around y.imported y.ring y.next z x.others x.references) (p.definitions_are ∙ sym q.definitions_are)
      ∙ ap (λ z. around y.imported y.ring y.next y.definitions z x.references) others
      ∙ ap (λ z. around y.imported y.ring y.next y.definitions y.others z) (resolved_one f x.references y.references p.references_are q.references_are)

  pub faults_one : (f : List ℕ) (x y : List Fault) → AreFaults loose files f x → AreFaults loose files f y → x ≡ y
  faults_one f x y p q =
      p.2 ∙ ap (λ (z : Surroundings). file_faults z (items_in loose files f)) (surroundings_one f p.0 q.0 p.1 q.1) ∙ sym q.2

  diagnostics_one : (f : List ℕ) (x y : Diagnosed) → AreDiagnostics loose files f x → AreDiagnostics loose files f y → x ≡ y
  diagnostics_one f x y p q = p.2 ∙ ap (λ (fs : List Fault). diagnosed fs (read_in loose files f)) (faults_one f p.0 q.0 p.1 q.1) ∙ sym q.2

  -- ---- each file has an answer

  -- `Answered k` is that the key `k` has an answer
  abbrev pub Answered : K → Type 0
  Answered k = (a : Answer K V) × Means m k a

  pub linked_answer : (f : List ℕ) → Answered (s.linked.key f)
  linked_answer f = elim (linked_or_ring loose files f) [
    | inl l ↦ let a : Answer K V = Value (s.linked.value l.0) in (a, (t.linked f a).1 (l.0, refl, l.1))
    | inr r ↦ let a : Answer K V = Cycle (map s.linked.key r.0) in (a, (t.linked f a).1 (r.0, refl, r.1))
  ]

  pub scope_answer : (f : List ℕ) → Answered (s.scope.key f)
  scope_answer f = let x = scope_exists loose files f in let a : Answer K V = Value (s.scope.value x.0) in (a, (t.scope f a).1 (x.0, refl, x.1))

  pub resolved_answer : (f : List ℕ) → Answered (s.resolved.key f)
  resolved_answer f = let x = resolved_exist loose files f in let a : Answer K V = Value (s.resolved.value x.0) in (a, (t.resolved f a).1 (x.0, refl, x.1))

  low : (k : K) (n : ℕ) → m.level k ≡ n → n < check_level → m.level k < check_level
  low k n e l = subst (λ (i : ℕ). i < check_level) (sym e) l

  asks : AsksIn (HasAnswer m check_level) w Any
  asks = record {
    items = λ f n. (low (s.items.key f) 2 (s.items.embeds.level_is f) (omega arith), (_, (t.items f _).1 refl));
    imports = λ f n. (low (s.imports.key f) 3 (s.imports.embeds.level_is f) (omega arith), (_, (t.imports f _).1 refl));
    linked = λ f n. (low (s.linked.key f) 4 (s.linked.embeds.level_is f) (omega arith), linked_answer f);
    defs = λ f n. (low (s.defs.key f) 5 (s.defs.embeds.level_is f) (omega arith), (_, (t.defs f _).1 refl));
    scope = λ f n. (low (s.scope.key f) 6 (s.scope.embeds.level_is f) (omega arith), scope_answer f);
    resolved = λ f n. (low (s.resolved.key f) 7 (s.resolved.embeds.level_is f) (omega arith), resolved_answer f);
  }

  pub checks_answer : (f : List ℕ) → Answered (c.checks.key f)
  checks_answer f =
      has_answer m c.checks.key c.checks.part c.checks.value check_level (check_starts s.items.key) (λ q a. check_advances w q a) c.checks.embeds (omega arith)
      check_left (λ q a k r e. check_falls w a q k r e) (CheckPartIn Any)
      (λ x. check_starts_in (HasAnswer m check_level) w Any asks x tt)
      (λ q a p. check_advances_in (HasAnswer m check_level) w Any asks q a (any_imports (s.imports.read a)) p) f

  below : (k : K) (n : ℕ) → m.level k ≡ n → n < diagnostics_level → m.level k < diagnostics_level
  below k n e l = subst (λ (i : ℕ). i < diagnostics_level) (sym e) l

  file_asks : (f : List ℕ) (file : ParsedFile) (tree : Bool) → Asks m diagnostics_level (λ (x : DiagnosticsPart). Unit {0}) (file_turn c.checks.key f file tree)
  file_asks f file true = ((below (c.checks.key f) check_level (c.checks.embeds.level_is f) (omega arith), checks_answer f), tt)
  file_asks f file false = tt

  diagnostics_asks : (q : DiagnosticsPart) (a : Answer K V)
      → Asks m diagnostics_level (λ (x : DiagnosticsPart). Unit {0}) (diagnostics_advances c.checks.key (c.checks.read a) (s.parse.read a) q)
  diagnostics_asks (ReadFile f) a = file_asks f (s.parse.read a) (has_tree (s.parse.read a))
  diagnostics_asks (ReadChecks file) a = tt

  pub diagnostics_answer : (f : List ℕ) → Answered (c.diagnostics.key f)
  diagnostics_answer f =
      has_answer m c.diagnostics.key c.diagnostics.part c.diagnostics.value diagnostics_level (diagnostics_starts s.parse.key)
      (λ q a. diagnostics_advances c.checks.key (c.checks.read a) (s.parse.read a) q) c.diagnostics.embeds (omega arith)
      diagnostics_left (λ q a k r e. diagnostics_falls c.checks.key (c.checks.read a) (s.parse.read a) q k r e) (λ q. Unit {0})
      (λ x. ((below (s.parse.key x) 1 (s.parse.embeds.level_is x) (omega arith), (_, (t.parse x _).1 refl)), tt)) (λ q a p. diagnostics_asks q a) f

  faults_exist : (f : List ℕ) → (fs : List Fault) × AreFaults loose files f fs
  faults_exist f = let b = checks_answer f in let is = checks_are m loose files s c t f b.0 b.1 in (is.0, is.2)

  -- ---- what the sources say is the answer

  means_checks : (f : List ℕ) (a : Answer K V) → (fs : List Fault) × (a ≡ Value (c.checks.value fs)) × AreFaults loose files f fs → Means m (c.checks.key f) a
  means_checks f a p =
      let b = checks_answer f in
      let is = checks_are m loose files s c t f b.0 b.1 in
      subst (Means m (c.checks.key f)) (is.1 ∙ ap (λ (x : List Fault). Value (c.checks.value x)) (faults_one f is.0 p.0 is.2 p.2) ∙ sym p.1) b.1

  means_diagnostics : (f : List ℕ) (a : Answer K V) → (d : Diagnosed) × (a ≡ Value (c.diagnostics.value d)) × AreDiagnostics loose files f d → Means m (c.diagnostics.key f) a
  means_diagnostics f a p =
      let b = diagnostics_answer f in
      let is = diagnostics_are m loose files s c t f b.0 (p.2.0, p.2.1) b.1 in
      subst (Means m (c.diagnostics.key f)) (is.1 ∙ ap (λ (x : Diagnosed). Value (c.diagnostics.value x)) (diagnostics_one f is.0 p.0 is.2 p.2) ∙ sym p.1) b.1

  pub checks_mean : ChecksMeans m loose files s c
  checks_mean = record {
    checks = λ f a. (checks_are m loose files s c t f a, means_checks f a);
    diagnostics = λ f a. (diagnostics_are m loose files s c t f a (faults_exist f), means_diagnostics f a);
  }
