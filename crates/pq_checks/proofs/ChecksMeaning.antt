-- In every rule set in which the query of checks is embedded beside those of a schema, each answer
-- of the checks of a file is what the sources say of its errors.
use Rattle.std.proofs.Common.{◌≡◌, ℕ, ◌<◌, Bool, true, false, List, [], ◌∷◌, ◌++◌, map, Option, Some, None, refl, sym, ap, subst, ◌∙◌, inl, inr, arith}
use Rattle.std.specs.Prelude.{slice_get, unwrap_or}
use Rattle.pq_inputs.specs.Sources.{Sources}
use Rattle.pq_rules.specs.declared.turn.Turn.{Turn}
use Rattle.pq_rules.specs.declared.turn.Turn.TheVariants.{Ask}
use Rattle.pq_rules.specs.declared.turn.Answer.{Answer}
use Rattle.pq_rules.specs.declared.turn.Answer.TheVariants.{Value, Cycle}
use Rattle.pq_rules.specs.Turns.{Instance}
use Rattle.pq_rules.specs.Relations.{Each, In, Chain, Leads, IsRing, LeadsInto}
use Rattle.pq_rules.specs.Value.{Trace, Means}
use Rattle.pq_rules.specs.Embedding.{Runs}
use Rattle.pq_rules.proofs.LowerReads.{AsksBelow, ask_below, done_below, runs_below, lower_runs}
use Rattle.pq_rules.proofs.Rings.{each_in}
use Rattle.pq_links.specs.Files.{read_in, items_in, graph_of}
use Rattle.pq_links.specs.ImportGraph.{Graph, file_of, imported, IsGood, IsBad, IsNext, IsRingOf}
use Rattle.pq_links.specs.LinkedKeys.{LinkedIs}
use Rattle.pq_links.specs.declared.file_items.FileItems.{FileItems}
use Rattle.pq_links.specs.declared.files.ParsedFile.{ParsedFile}
use Rattle.pq_links.specs.declared.files.ParsedFile.TheVariants.{Absent, Present}
use Rattle.pq_links.specs.declared.links.Import.{Import}
use Rattle.pq_links.proofs.GraphLemmas.{ends_or_walks}
use Rattle.pq_syntax.specs.declared.fault.Parsed.TheVariants.{Tree, Fault as SyntaxFault}
use Rattle.pq_schema.specs.Contents.{Defs}
use Rattle.pq_schema.specs.Compile.{defs_at, AreResolved}
use Rattle.pq_schema.specs.SchemaSum.{SchemaSum, SchemaMeans}
use Rattle.pq_schema.proofs.BadFiles.{ring_bad}
use Rattle.pq_checks.specs.Answers.{CheckWords, AsksStates, AsksNext, AsksLinks, if_ring, surroundings_by}
use Rattle.pq_checks.specs.ChecksSum.{ChecksSum, words_of}
use Rattle.pq_checks.specs.Compile.{AreSurroundings, IsRingAt, file_faults, AreFaults}
use Rattle.pq_checks.specs.Diagnostics.{AsksErrors, diagnosed, has_tree, AreDiagnostics}
use Rattle.pq_checks.specs.Surroundings.{state_of, other_files}
use Rattle.pq_checks.specs.aux.DiagnosticsTurns.{diagnostics_level, diagnostics_starts, diagnostics_advances, file_turn}
use Rattle.pq_checks.specs.aux.Queries.{check_level, link_next, staged, placed, with_state, link_follows, link_placed, check_starts, check_advances}
use Rattle.pq_checks.specs.declared.queries.checked.CheckPart.{CheckPart}
use Rattle.pq_checks.specs.declared.queries.checked.CheckPart.TheVariants.{ReadItems, ReadImports, ReadLinks, ReadDefs, ReadScope, ReadReferences, ReadState, ReadNext}
use Rattle.pq_checks.specs.declared.queries.gathered.Known.{Known}
use Rattle.pq_checks.specs.declared.errors.diagnostic.Diagnosed.{Diagnosed}
use Rattle.pq_checks.specs.declared.queries.diagnostics.DiagnosticsPart.{DiagnosticsPart}
use Rattle.pq_checks.specs.declared.queries.diagnostics.DiagnosticsPart.TheVariants.{ReadChecks, ReadFile as ReadParsed}
use Rattle.pq_checks.specs.declared.errors.fault.Fault.{Fault}
use Rattle.pq_checks.specs.declared.around.surroundings.Imported.{Imported}
use Rattle.pq_checks.proofs.ByAnswers.{checks_given}
use Rattle.pq_checks.proofs.DiagnosticsGiven.{diagnostics_given}

-- ---- rings of imports

in_middle : (before after : List (List ℕ)) (h : List ℕ) → In h (before ++ h ∷ after)
in_middle [] after h = inl refl
in_middle (x ∷ xs) after h = inr (in_middle xs after h)

chain_next : (g : Graph) (f : List ℕ) (xs : List (List ℕ)) (z : List ℕ) → Chain (IsNext g) f xs z → (h : List ℕ) × IsNext g f h
unfolding Chain
chain_next g f [] z c = (z, c)
chain_next g f (x ∷ xs) z c = (x, c.0)

-- a file that leads into a ring has a next file
ring_next : (g : Graph) (f : List ℕ) (ring : List (List ℕ)) → IsRingOf g f ring → (h : List ℕ) × IsNext g f h
unfolding IsRing LeadsInto Leads
ring_next g f [] r = absurd r.0
ring_next g f (z ∷ zs) r = elim r.1 [
  | inl e ↦ subst (λ (x : List ℕ). (h : List ℕ) × IsNext g x h) (sym e) (chain_next g z zs z r.0.0)
  | inr c ↦ chain_next g f c.0 z c.1
]

-- so not all its imports are good
not_all_good : (g : Graph) (f : List ℕ) (ring : List (List ℕ)) → IsRingOf g f ring → Each (IsGood g) (imported g f) → ⊥
not_all_good g f ring r good =
    let n = ring_next g f ring r in
    let is = n.1 in
    let among : In n.0 (imported g f) = subst (λ (hs : List (List ℕ)). In n.0 hs) (sym is.2) (in_middle is.0 is.1 n.0) in
    let ends = each_in (IsGood g) n.0 (imported g f) good among in
    ends_or_walks g ends.0 n.0 ends.1 (is.4 ends.0)

-- `NextOf g hs next` is that `next` is the first bad file of `hs`, or `None` where all are good
abbrev NextOf : Graph → List (List ℕ) → Option (List ℕ) → Type 0
NextOf g hs None = Each (IsGood g) hs
NextOf g hs (Some h) = (before after : List (List ℕ)) × (hs ≡ before ++ h ∷ after) × Each (IsGood g) before × IsBad g h

good_more : (g : Graph) (x : List ℕ) (hs : List (List ℕ)) (next : Option (List ℕ)) → IsGood g x → NextOf g hs next → NextOf g (x ∷ hs) next
good_more g x hs None good n = (good, n)
good_more g x hs (Some h) good n = (x ∷ n.0, n.1, ap (λ (ys : List (List ℕ)). x ∷ ys) n.2, (good, n.3), n.4)

ring_at : (g : Graph) (f : List ℕ) (ring : List (List ℕ)) (next : Option (List ℕ)) → IsRingOf g f ring → NextOf g (imported g f) next → IsRingAt g f (Some ring) next
ring_at g f ring None r n = not_all_good g f ring r n
ring_at g f ring (Some h) r n = (r, n)

-- ---- a file without a tree has the same diagnostics whatever its errors are

treeless : (fs xs : List Fault) (file : ParsedFile) → has_tree file ≡ false → diagnosed fs file ≡ diagnosed xs file
treeless fs xs Absent e = refl
treeless fs xs (Present (Tree nodes) shown lines) e = cc
treeless fs xs (Present (SyntaxFault span c) shown lines) e = refl

module _ {K P V : Type 0} (m : Instance K P V) (loose : Bool) (files : Sources) (s : SchemaSum m loose files) (c : ChecksSum m loose files s) (t : SchemaMeans m loose files s) where
  abbrev w : CheckWords K (Answer K V)
  w = words_of s c.referred_read c.ring_files

  abbrev advances : CheckPart → Answer K V → Turn K CheckPart (List Fault)
  advances q a = check_advances w q a

  abbrev g : Graph
  g = graph_of loose files

  -- ---- the rule asks keys of lower levels alone

  abbrev IsLow : Turn K CheckPart (List Fault) → Type 0
  IsLow = AsksBelow m check_level

  low : (k : K) (n : ℕ) → m.level k ≡ n → n < check_level → m.level k < check_level
  low k n e l = subst (λ (i : ℕ). i < check_level) (sym e) l

  items_low : (f : List ℕ) → m.level (s.items.key f) < check_level
  items_low f = low (s.items.key f) 2 (s.items.embeds.level_is f) (omega arith)

  linked_low : (f : List ℕ) → m.level (s.linked.key f) < check_level
  linked_low f = low (s.linked.key f) 4 (s.linked.embeds.level_is f) (omega arith)

  link_next_low : (k : Known) (ring : Option (List (List ℕ))) (first : Option Import) (left : List Import) (is : List Imported)
      → IsLow (placed k left is (link_next s.linked.key k ring first is))
  link_next_low k (Some ring) (Some i) left is = ask_below m check_level (s.linked.key i.file) (ReadNext k k.linked.imports is) (linked_low i.file)
  link_next_low k (Some ring) None left is = done_below m check_level _
  link_next_low k None first left is = done_below m check_level _

  staged_low : (k : Known) (next : Option Import) (left : List Import) (is : List Imported) → IsLow (placed k left is (staged s.linked.key s.items.key k next is))
  staged_low k (Some i) left is = ask_below m check_level (s.items.key i.file) (ReadState k left is) (items_low i.file)
  staged_low k None left is = link_next_low k k.linked.ring (slice_get k.linked.imports 0) left is

  link_low : (k : Known) (i : Import) (second : Option Import) (ring : Option (List (List ℕ))) (left : List Import) (is : List Imported)
      → IsLow (link_placed k left is (link_follows s.linked.key k (Some i) second ring is))
  link_low k i second (Some ring) left is = done_below m check_level _
  link_low k i (Some j) None left is = ask_below m check_level (s.linked.key j.file) (ReadNext k left is) (linked_low j.file)
  link_low k i None None left is = done_below m check_level _

  advance_low : (p : CheckPart) (a : Answer K V) → IsLow (advances p a)
  advance_low (ReadItems f) a = ask_below m check_level (s.imports.key f) _ (low (s.imports.key f) 3 (s.imports.embeds.level_is f) (omega arith))
  advance_low (ReadImports f p) a = ask_below m check_level (s.linked.key f) _ (linked_low f)
  advance_low (ReadLinks f p is) a = ask_below m check_level (s.defs.key f) _ (low (s.defs.key f) 5 (s.defs.embeds.level_is f) (omega arith))
  advance_low (ReadDefs l) a = ask_below m check_level (s.scope.key l.file) _ (low (s.scope.key l.file) 6 (s.scope.embeds.level_is l.file) (omega arith))
  advance_low (ReadScope l d) a = ask_below m check_level (s.resolved.key l.file) _ (low (s.resolved.key l.file) 7 (s.resolved.embeds.level_is l.file) (omega arith))
  advance_low (ReadReferences l d sc) a =
      staged_low (record { linked = l; defs = d; scope = sc; references = c.referred_read a }) (slice_get l.imports 0) l.imports []
  advance_low (ReadState k [] is) a = done_below m check_level _
  advance_low (ReadState k (i ∷ left) is) a = staged_low k (slice_get left 0) left (with_state (Some i) (s.items.read a) is)
  advance_low (ReadNext k [] is) a = done_below m check_level _
  advance_low (ReadNext k (i ∷ left) is) a = link_low k i (slice_get left 0) (c.ring_files a) left is

  lower : (f : List ℕ) (es : Trace K V) (k : K) (q : CheckPart) → Runs advances (check_starts s.items.key f) es (Ask k q) → m.level k < check_level
  lower f = runs_below m check_level advances advance_low (check_starts s.items.key f) (ask_below m check_level (s.items.key f) (ReadItems f) (items_low f))

  -- ---- what right answers say

  itemed_is : (f : List ℕ) (a : Answer K V) → Means m (s.items.key f) a → s.items.read a ≡ items_in loose files f
  itemed_is f a h = ap s.items.read ((t.items f a).0 h) ∙ s.items.back (items_in loose files f)

  abbrev with_file : List ℕ → Imported
  with_file h = record { file = h; state = state_of (items_in loose files h) }

  states_are : (is : List Import) (es rest : Trace K V) (imported : List Imported) → AsksStates w is es rest imported → Each (λ e. Means m e.0 e.1) es
      → (imported ≡ map with_file (map file_of is)) × Each (λ e. Means m e.0 e.1) rest
  states_are [] es rest imported p told = (p.1, subst (λ (xs : Trace K V). Each (λ e. Means m e.0 e.1) xs) (sym p.0) told)
  states_are (i ∷ is) [] rest imported p told = absurd p
  states_are (i ∷ is) (e ∷ es) rest imported p told =
      let means : Means m (s.items.key i.file) e.1 = subst (λ (k : K). Means m k e.1) p.1 told.0 in
      let others = states_are is es rest p.0 p.3 told.1 in
      let made = λ (x : FileItems) (more : List Imported). record { file = i.file; state = state_of x } ∷ more in
      (p.2 ∙ ap (λ (x : FileItems). made x p.0) (itemed_is i.file e.1 means) ∙ ap (made (items_in loose files i.file)) others.0, others.1)

  -- an answer for the links of an import
  next_step : (x : List ℕ) (is : List Import) (es : Trace K V) (next : Option (List ℕ)) (a : Answer K V) → LinkedIs g s.linked.key s.linked.value x a
      → (AsksNext w is es next → NextOf g (map file_of is) next)
      → if_ring (c.ring_files a) ((es ≡ []) × (next ≡ Some x)) (AsksNext w is es next) → NextOf g (x ∷ map file_of is) next
  next_step x is es next (Value v) l on p =
      let none : c.ring_files (Value v) ≡ None = ap (λ (y : V). c.ring_files (Value y)) l.1 ∙ c.no_ring l.0 in
      let rest : AsksNext w is es next = subst (λ (r : Option (List (List ℕ))). if_ring r ((es ≡ []) × (next ≡ Some x)) (AsksNext w is es next)) none p in
      good_more g x (map file_of is) next (l.2.0, l.2.1) (on rest)
  next_step x is es next (Cycle r) l on p =
      let some : c.ring_files (Cycle r) ≡ Some l.0 = ap (λ (y : List K). c.ring_files (Cycle y)) l.1 ∙ c.ring_back l.0 in
      let end : (es ≡ []) × (next ≡ Some x) = subst (λ (o : Option (List (List ℕ))). if_ring o ((es ≡ []) × (next ≡ Some x)) (AsksNext w is es next)) some p in
      let ring : IsRingOf g x l.0 = l.2 in
      subst (λ (n : Option (List ℕ)). NextOf g (x ∷ map file_of is) n) (sym end.1) ([], map file_of is, refl, tt, ring_bad g x l.0 ring)

  next_is : (is : List Import) (es : Trace K V) (next : Option (List ℕ)) → AsksNext w is es next → Each (λ e. Means m e.0 e.1) es → NextOf g (map file_of is) next
  next_is [] es next p told = subst (λ (n : Option (List ℕ)). NextOf g [] n) (sym p.1) tt
  next_is (i ∷ is) [] next p told = absurd p
  next_is (i ∷ is) (e ∷ es) next p told =
      let means : Means m (s.linked.key i.file) e.1 = subst (λ (k : K). Means m k e.1) p.0 told.0 in
      next_step i.file is es next e.1 ((t.linked i.file e.1).0 means) (λ q. next_is is es next q told.1) p.1

  -- the ring and the next file, by the answers for links
  ring_is : (f : List ℕ) (a : Answer K V) (is : List Import) (es : Trace K V) (next : Option (List ℕ)) → map file_of is ≡ imported g f
      → LinkedIs g s.linked.key s.linked.value f a → AsksLinks w (c.ring_files a) is es next → Each (λ e. Means m e.0 e.1) es → IsRingAt g f (c.ring_files a) next
  ring_is f (Value v) is es next same l p told =
      let none : c.ring_files (Value v) ≡ None = ap (λ (y : V). c.ring_files (Value y)) l.1 ∙ c.no_ring l.0 in
      let end : (es ≡ []) × (next ≡ None) = subst (λ (r : Option (List (List ℕ))). AsksLinks w r is es next) none p in
      let good : IsGood g f = (l.2.0, l.2.1) in
      subst (λ (r : Option (List (List ℕ))). IsRingAt g f r next) (sym none) (subst (λ (n : Option (List ℕ)). IsRingAt g f None n) (sym end.1) good)
  ring_is f (Cycle r) is es next same l p told =
      let some : c.ring_files (Cycle r) ≡ Some l.0 = ap (λ (y : List K). c.ring_files (Cycle y)) l.1 ∙ c.ring_back l.0 in
      let asks : AsksNext w is es next = subst (λ (o : Option (List (List ℕ))). AsksLinks w o is es next) some p in
      let ring : IsRingOf g f l.0 = l.2 in
      let first : NextOf g (imported g f) next = subst (λ (hs : List (List ℕ)). NextOf g hs next) same (next_is is es next asks told) in
      subst (λ (o : Option (List (List ℕ))). IsRingAt g f o next) (sym some) (ring_at g f l.0 next ring first)

  pub checks_are : (f : List ℕ) (a : Answer K V) → Means m (c.checks.key f) a → (fs : List Fault) × (a ≡ Value (c.checks.value fs)) × AreFaults loose files f fs
  checks_are f a h =
      let r = lower_runs m c.checks.key c.checks.part c.checks.value check_level (check_starts s.items.key) advances c.checks.embeds (omega arith) lower f a h in
      let x = r.1 in
      let given = checks_given w f r.0 x r.2 in
      let told = subst (λ (xs : Trace K V). Each (λ e. Means m e.0 e.1) xs) given.10 r.4 in
      let items = itemed_is f given.0 told.0 in
      let imports : s.imports.read given.1 ≡ g f = ap s.imports.read ((t.imports f given.1).0 told.1.0) ∙ s.imports.back (g f) in
      let links = (t.linked f given.2).0 told.1.1.0 in
      let defs : s.defs.read given.3 ≡ defs_at loose files f = ap s.defs.read ((t.defs f given.3).0 told.1.1.1.0) ∙ s.defs.back (defs_at loose files f) in
      let scope = (t.scope f given.4).0 told.1.1.1.1.0 in
      let scoped : s.scope.read given.4 ≡ scope.0 = ap s.scope.read scope.1 ∙ s.scope.back scope.0 in
      let resolved = (t.resolved f given.5).0 told.1.1.1.1.1.0 in
      let referred : c.referred_read given.5 ≡ resolved.0 = ap c.referred_read resolved.1 ∙ c.referred_back resolved.0 in
      let states = states_are (unwrap_or (s.imports.read given.1) []) given.6 given.7 given.8 given.11 told.1.1.1.1.1.1 in
      let same : map file_of (unwrap_or (s.imports.read given.1) []) ≡ imported g f = ap (λ (o : Option (List Import)). map file_of (unwrap_or o [])) imports in
      let around = surroundings_by f given.8 (c.ring_files given.2) given.9 (s.defs.read given.3) (s.scope.read given.4) (c.referred_read given.5) in
      let are : AreSurroundings loose files f around = record {
        imported_are = states.0 ∙ ap (map with_file) same;
        ring_is = ring_is f given.2 (unwrap_or (s.imports.read given.1) []) given.7 given.9 same links given.12 states.1;
        definitions_are = ap (λ (d : Defs). d.definitions) defs;
        others_are = (scope.0, scope.2, ap (other_files f) scoped);
        references_are = subst (AreResolved loose files f) (sym referred) resolved.2;
      } in
      (x, r.3, (around, are, given.13 ∙ ap (file_faults around) items))

  -- ---- the diagnostics

  parsed_is : (f : List ℕ) (a : Answer K V) → Means m (s.parse.key f) a → s.parse.read a ≡ read_in loose files f
  parsed_is f a h = ap s.parse.read ((t.parse f a).0 h) ∙ s.parse.back (read_in loose files f)

  abbrev turns : DiagnosticsPart → Answer K V → Turn K DiagnosticsPart Diagnosed
  turns q a = diagnostics_advances c.checks.key (c.checks.read a) (s.parse.read a) q

  file_below : (f : List ℕ) (file : ParsedFile) (tree : Bool) → AsksBelow m diagnostics_level (file_turn c.checks.key f file tree)
  file_below f file true = ask_below m diagnostics_level (c.checks.key f) _ (let eight = c.checks.embeds.level_is f in omega arith)
  file_below f file false = done_below m diagnostics_level _

  turns_below : (p : DiagnosticsPart) (a : Answer K V) → AsksBelow m diagnostics_level (turns p a)
  turns_below (ReadParsed f) a = file_below f (s.parse.read a) (has_tree (s.parse.read a))
  turns_below (ReadChecks file) a = done_below m diagnostics_level _

  starts_below : (f : List ℕ) → AsksBelow m diagnostics_level (diagnostics_starts s.parse.key f)
  starts_below f = ask_below m diagnostics_level (s.parse.key f) _ (let one = s.parse.embeds.level_is f in omega arith)

  -- the errors that were asked are those of the file; without a tree they do not matter
  errors_are : (f : List ℕ) (file : ParsedFile) (tree : Bool) (es : Trace K V) (fs : List Fault) → has_tree file ≡ tree
      → (xs : List Fault) × AreFaults loose files f xs → AsksErrors c.checks.key c.checks.read f tree es fs → Each (λ e. Means m e.0 e.1) es
      → (xs : List Fault) × AreFaults loose files f xs × (diagnosed fs file ≡ diagnosed xs file)
  errors_are f file true es fs tree exist asks told =
      let means = subst (λ (ys : Trace K V). Each (λ e. Means m e.0 e.1) ys) asks.1 told in
      let x = checks_are f asks.0 means.0 in
      (x.0, x.2, ap (λ (ys : List Fault). diagnosed ys file) (asks.2 ∙ ap c.checks.read x.1 ∙ c.checks.back x.0))
  errors_are f file false es fs tree exist asks told = (exist.0, exist.1, treeless fs exist.0 file tree)

  pub diagnostics_are : (f : List ℕ) (a : Answer K V) → (fs : List Fault) × AreFaults loose files f fs → Means m (c.diagnostics.key f) a
      → (d : Diagnosed) × (a ≡ Value (c.diagnostics.value d)) × AreDiagnostics loose files f d
  diagnostics_are f a exist h =
      let r = lower_runs m c.diagnostics.key c.diagnostics.part c.diagnostics.value diagnostics_level (diagnostics_starts s.parse.key) turns c.diagnostics.embeds (omega arith)
      (λ x. runs_below m diagnostics_level turns turns_below (diagnostics_starts s.parse.key x) (starts_below x)) f a h in
      let given = diagnostics_given c.checks.key s.parse.key c.checks.read s.parse.read f r.0 r.1 r.2 in
      let told = subst (λ (xs : Trace K V). Each (λ e. Means m e.0 e.1) xs) given.3 r.4 in
      let read = s.parse.read given.0 in
      let x = errors_are f read (has_tree read) given.1 given.2 refl exist given.4 told.1 in
      (r.1, r.3, (x.0, x.1, given.5 ∙ x.2 ∙ ap (diagnosed x.0) (parsed_is f given.0 told.0)))
