-- What the keys of a schema mean in every sum that embeds its queries: exactly what the files
-- compile to by `specs/Compile`.
use Rattle.std.proofs.Common.{◌≡◌, ℕ, Bool, ◌<◌, List, map, refl, sym, ap, subst, ◌∙◌, inl, inr, arith}
use Rattle.pq_inputs.specs.Sources.{Sources, file_in}
use Rattle.pq_rules.specs.declared.turn.Answer.{Answer}
use Rattle.pq_rules.specs.declared.turn.Answer.TheVariants.{Value, Cycle}
use Rattle.pq_rules.specs.Turns.{Instance}
use Rattle.pq_rules.specs.Value.{Means}
use Rattle.pq_rules.specs.aux.Runs.{input_means}
use Rattle.pq_rules.proofs.Characterisation.{means_input}
use Rattle.pq_rules.proofs.AskedOnce.{HasValue, asked_once}
use Rattle.pq_links.specs.Files.{read_file, read_in, items_of, items_in, nodes_in, file_imports, graph_of}
use Rattle.pq_links.specs.ImportGraph.{IsRingOf}
use Rattle.pq_links.specs.Visibility.{AreLinks}
use Rattle.pq_links.specs.aux.Queries.{parse_level, items_level, imports_level, linked_level}
use Rattle.pq_links.specs.declared.file_items.FileItems.{FileItems}
use Rattle.pq_links.specs.declared.links.Links.{Links}
use Rattle.pq_links.specs.LinkedKeys.{EmbedsLinks, LinkedIs}
use Rattle.pq_links.proofs.LinkedMeaning.{linked_is}
use Rattle.pq_links.proofs.LinkedAnswers.{is_linked}
use Rattle.pq_links.proofs.Reached.{Reaches, all_reached}
use Rattle.pq_schema.specs.ScopeContents.{Scope}
use Rattle.pq_schema.specs.Definitions.{defs_of}
use Rattle.pq_schema.specs.Compile.{defs_at, with_defs, IsScope, AreResolved}
use Rattle.pq_schema.specs.Answers.{scope_by}
use Rattle.pq_schema.specs.aux.Queries.{defs_level, scope_level, resolved_level, resolved_by}
use Rattle.pq_schema.specs.declared.queries.resolved.ResolvedReference.{ResolvedReference}
use Rattle.pq_schema.proofs.ScopeMeaning.{scope_is, is_scope}
use Rattle.pq_schema.proofs.ResolvedMeaning.{resolved_is, is_resolved}
use Rattle.pq_schema.proofs.Picked.{scope_defined}
use Rattle.pq_schema.specs.SchemaSum.{SchemaSum, SchemaMeans}

module _ {K P V : Type 0} (m : Instance K P V) (loose : Bool) (files : Sources) (s : SchemaSum m loose files) where
  low : {x : K} (n l : ℕ) → m.level x ≡ n → n < l → m.level x < l
  low n l e h = subst (λ (i : ℕ). i < l) (sym e) h

  -- ---- the text of a file
  input_is : (f : List ℕ) (a : Answer K V) → Means m (s.input f) a → a ≡ Value (s.text_value (file_in files f).text)
  input_is f a h = input_means m (s.input f) a (s.input_level f) h ∙ ap (λ (v : V). Value v) (s.input_is f)

  is_input : (f : List ℕ) → Means m (s.input f) (Value (s.text_value (file_in files f).text))
  is_input f = means_input m (s.input f) (s.text_value (file_in files f).text) (s.input_level f) (sym (s.input_is f))

  input_low : (f : List ℕ) → m.level (s.input f) < parse_level
  input_low f = low 0 parse_level (s.input_level f) (omega arith)

  text_is : (f : List ℕ) (a : Answer K V) → Means m (s.input f) a → s.text_read a ≡ (file_in files f).text
  text_is f a h = ap s.text_read (input_is f a h) ∙ s.text_back (file_in files f).text

  -- ---- the queries of one read

  -- what a file is read as
  parsed : HasValue m s.parse.key s.parse.value s.parse.read (λ f. read_in loose files f)
  parsed =
      asked_once m s.parse s.input (λ f. tt) s.text_read (read_file loose) (λ f. refl) (λ f a. refl) input_low
      (λ f. (file_in files f).text) text_is (λ f. (Value (s.text_value (file_in files f).text), is_input f))

  parse_low : (f : List ℕ) → m.level (s.parse.key f) < items_level
  parse_low f = low parse_level items_level (s.parse.embeds.level_is f) (omega arith)

  -- the same without spans
  itemed : HasValue m s.items.key s.items.value s.items.read (λ f. items_in loose files f)
  itemed =
      asked_once m s.items s.parse.key (λ f. tt) s.parse.read items_of (λ f. refl) (λ f a. refl) parse_low
      (λ f. read_in loose files f) parsed.read_is (λ f. (Value (s.parse.value (read_in loose files f)), parsed.means f))

  items_low : (l : ℕ) → items_level < l → (f : List ℕ) → m.level (s.items.key f) < l
  items_low l h f = low items_level l (s.items.embeds.level_is f) h

  have_items : (f : List ℕ) → (a : Answer K V) × Means m (s.items.key f) a
  have_items f = (Value (s.items.value (items_in loose files f)), itemed.means f)

  -- the imports of a file
  imported : HasValue m s.imports.key s.imports.value s.imports.read (λ f. graph_of loose files f)
  imported =
      asked_once m s.imports s.items.key (λ f. tt) s.items.read file_imports (λ f. refl) (λ f a. refl) (items_low imports_level (omega arith))
      (λ f. items_in loose files f) itemed.read_is have_items

  have_imports : (f : List ℕ) → (a : Answer K V) × Means m (s.imports.key f) a
  have_imports f = (Value (s.imports.value (graph_of loose files f)), imported.means f)

  -- the definitions of a file
  defined : HasValue m s.defs.key s.defs.value s.defs.read (λ f. defs_at loose files f)
  defined =
      asked_once m s.defs s.items.key (λ f. tt) s.items.read (λ i. defs_of (nodes_in i)) (λ f. refl) (λ f a. refl) (items_low defs_level (omega arith))
      (λ f. items_in loose files f) itemed.read_is have_items

  have_defs : (f : List ℕ) → (a : Answer K V) × Means m (s.defs.key f) a
  have_defs f = (Value (s.defs.value (defs_at loose files f)), defined.means f)

  -- ---- the links of a file
  abbrev links : EmbedsLinks m (graph_of loose files) s.imports.key s.imports.read linked_level
  links = record {
    linked = s.linked;
    graph_is = imported.read_is;
    above = λ f. low imports_level linked_level (s.imports.embeds.level_is f) (omega arith);
    one = s.one_link;
    order_is = s.order_is;
  }

  linked_means : (f : List ℕ) (a : Answer K V) → Means m (s.linked.key f) a → LinkedIs (graph_of loose files) s.linked.key s.linked.value f a
  linked_means = linked_is m (graph_of loose files) s.imports.key s.imports.read linked_level links (record { not_both = s.strict })

  means_linked : (f : List ℕ) (a : Answer K V) → LinkedIs (graph_of loose files) s.linked.key s.linked.value f a → Means m (s.linked.key f) a
  means_linked = is_linked m (graph_of loose files) s.imports.key s.imports.read linked_level links have_imports (record { not_both = s.strict })

  is_good : (f : List ℕ) (l : Links) → AreLinks (graph_of loose files) f l → Means m (s.linked.key f) (Value (s.linked.value l))
  is_good f l i = means_linked f (Value (s.linked.value l)) (l, refl, i)

  is_ring : (f : List ℕ) (ring : List (List ℕ)) → IsRingOf (graph_of loose files) f ring → Means m (s.linked.key f) (Cycle (map s.linked.key ring))
  is_ring f ring i = means_linked f (Cycle (map s.linked.key ring)) (ring, refl, i)

  -- ---- the scope of a file
  above_links : (f : List ℕ) → m.level (s.linked.key f) < scope_level
  above_links f = low linked_level scope_level (s.linked.embeds.level_is f) (omega arith)

  above_defs : (f : List ℕ) → m.level (s.defs.key f) < scope_level
  above_defs f = low defs_level scope_level (s.defs.embeds.level_is f) (omega arith)

  -- `scope_from l` is the scope that the rule makes of the links `l`
  abbrev scope_from : Links → Scope
  scope_from l = scope_by l.visible (map (with_defs (defs_at loose files)) l.reach)

  reaches : (f : List ℕ) (l : Links) → AreLinks (graph_of loose files) f l → Reaches l
  reaches f l i = subst Reaches (sym i.2) (all_reached (graph_of loose files) i.0 f)

  by_links : (f : List ℕ) (b : Answer K V) → LinkedIs (graph_of loose files) s.linked.key s.linked.value f b → IsScope loose files f (scope_from (s.linked.read b))
  by_links f (Value v) i =
      let read : s.linked.read (Value v) ≡ i.0 = ap (λ (x : V). s.linked.read (Value x)) i.1 ∙ s.linked.back i.0 in
      inl (i.0, i.2, ap scope_from read ∙ scope_defined (defs_at loose files) i.0 (reaches f i.0 i.2))
  by_links f (Cycle r) i = inr (i.0, i.2, ap scope_from (s.ring_read r))

  scope_means : (f : List ℕ) (a : Answer K V) → Means m (s.scope.key f) a → (w : Scope) × (a ≡ Value (s.scope.value w)) × IsScope loose files f w
  scope_means f a h =
      let r = scope_is m s.linked.key s.defs.key s.scope.key s.scope.part s.scope.value s.linked.read s.defs.read (defs_at loose files) scope_level s.scope.embeds
      defined.read_is above_links above_defs f a h in
      (scope_from (s.linked.read r.0), r.2, by_links f r.0 (linked_means f r.0 r.1))

  means_from : (f : List ℕ) (b : Answer K V) → Means m (s.linked.key f) b → Means m (s.scope.key f) (Value (s.scope.value (scope_from (s.linked.read b))))
  means_from f b h =
      is_scope m s.linked.key s.defs.key s.scope.key s.scope.part s.scope.value s.linked.read s.defs.read (defs_at loose files) scope_level s.scope.embeds
      defined.read_is above_links above_defs have_defs f b h

  means_scope : (f : List ℕ) (w : Scope) → IsScope loose files f w → Means m (s.scope.key f) (Value (s.scope.value w))
  means_scope f w (inl i) =
      let read : scope_from (s.linked.read (Value (s.linked.value i.0))) ≡ w =
      ap scope_from (s.linked.back i.0) ∙ scope_defined (defs_at loose files) i.0 (reaches f i.0 i.1) ∙ sym i.2 in
      subst (λ (x : Scope). Means m (s.scope.key f) (Value (s.scope.value x))) read (means_from f (Value (s.linked.value i.0)) (is_good f i.0 i.1))
  means_scope f w (inr i) =
      let ring = map s.linked.key i.0 in
      let read : scope_from (s.linked.read (Cycle ring)) ≡ w = ap scope_from (s.ring_read ring) ∙ sym i.2 in
      subst (λ (x : Scope). Means m (s.scope.key f) (Value (s.scope.value x))) read (means_from f (Cycle ring) (is_ring f i.0 i.1))

  -- ---- the resolved references of a file
  above_scope : (f : List ℕ) → m.level (s.scope.key f) < resolved_level
  above_scope f = low scope_level resolved_level (s.scope.embeds.level_is f) (omega arith)

  resolved_means : (f : List ℕ) (a : Answer K V) → Means m (s.resolved.key f) a → (rs : List ResolvedReference) × (a ≡ Value (s.resolved.value rs)) × AreResolved loose files f rs
  resolved_means f a h =
      let r = resolved_is m s.scope.key s.items.key s.resolved.key s.resolved.part s.resolved.value s.scope.read (λ b. nodes_in (s.items.read b)) resolved_level s.resolved.embeds
      above_scope (items_low resolved_level (omega arith)) f a h in
      let w = scope_means f r.0 r.2 in
      let scope_at : s.scope.read r.0 ≡ w.0 = ap s.scope.read w.1 ∙ s.scope.back w.0 in
      let file : s.items.read r.1 ≡ items_in loose files f = itemed.read_is f r.1 r.3 in (
        resolved_by (s.scope.read r.0) (nodes_in (s.items.read r.1)),
        r.4,
        (
          w.0,
          w.2,
          ap (λ (x : Scope). resolved_by x (nodes_in (s.items.read r.1))) scope_at
              ∙ ap (λ (i : FileItems). resolved_by w.0 (nodes_in i)) file,
        ),
      )

  means_resolved : (f : List ℕ) (rs : List ResolvedReference) → AreResolved loose files f rs → Means m (s.resolved.key f) (Value (s.resolved.value rs))
  means_resolved f rs i =
      let b : Answer K V = Value (s.scope.value i.0) in
      let c : Answer K V = Value (s.items.value (items_in loose files f)) in
      let made = is_resolved m s.scope.key s.items.key s.resolved.key s.resolved.part s.resolved.value s.scope.read (λ x. nodes_in (s.items.read x)) resolved_level s.resolved.embeds
      above_scope (items_low resolved_level (omega arith)) f b c (means_scope f i.0 i.1) (itemed.means f) in
      let same : resolved_by (s.scope.read b) (nodes_in (s.items.read c)) ≡ rs =
      ap (λ (x : Scope). resolved_by x (nodes_in (s.items.read c))) (s.scope.back i.0)
      ∙ ap (λ (x : FileItems). resolved_by i.0 (nodes_in x)) (s.items.back (items_in loose files f))
      ∙ sym i.2 in
      subst (λ (x : List ResolvedReference). Means m (s.resolved.key f) (Value (s.resolved.value x))) same made

  -- the answers of the sum are exactly what the files compile to
  pub schema_means : SchemaMeans m loose files s
  schema_means = record {
    input = λ f a. (input_is f a, λ e. subst (Means m (s.input f)) (sym e) (is_input f));
    parse = λ f a. (parsed.is f a, λ e. subst (Means m (s.parse.key f)) (sym e) (parsed.means f));
    items = λ f a. (itemed.is f a, λ e. subst (Means m (s.items.key f)) (sym e) (itemed.means f));
    imports = λ f a. (imported.is f a, λ e. subst (Means m (s.imports.key f)) (sym e) (imported.means f));
    linked = λ f a. (linked_means f a, means_linked f a);
    defs = λ f a. (defined.is f a, λ e. subst (Means m (s.defs.key f)) (sym e) (defined.means f));
    scope = λ f a. (scope_means f a, λ i. subst (Means m (s.scope.key f)) (sym i.1) (means_scope f i.0 i.2));
    resolved = λ f a. (resolved_means f a, λ i. subst (Means m (s.resolved.key f)) (sym i.1) (means_resolved f i.0 i.2));
  }
