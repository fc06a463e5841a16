-- The rule set embeds the queries of links, of schemas, of checks and of this crate, so each answer
-- of a key is what the key compiles to.
--
-- What pq_schema and pq_checks say of every rule set that embeds their queries gives the answers of
-- their keys. The three queries above ask these keys alone: their runs have at most three reads.
use Rattle.std.proofs.Common.{◌≡◌, ℕ, Bool, true, false, ◌&&◌, cond, List, [], ◌∷◌, map, Option, Some, None, refl, sym, ap, ap₂, subst, ◌∙◌, arith}
use Rattle.std.specs.Prelude.{codes, not, option_and_then}
use Rattle.std.specs.Cmp.Lexicographic.{slice_cmp}
use Rattle.std.specs.Ordering.{nat_cmp}
use Rattle.std.specs.declared.cmp.Ordering.{Ordering}
use Rattle.serde_json.specs.Written.{compact_text}
use Rattle.pq_inputs.specs.Sources.{Sources}
use Rattle.pq_rules.specs.declared.turn.Turn.{Turn}
use Rattle.pq_rules.specs.declared.turn.Turn.TheVariants.{Ask, Done}
use Rattle.pq_rules.specs.declared.turn.Answer.{Answer}
use Rattle.pq_rules.specs.declared.turn.Answer.TheVariants.{Value}
use Rattle.pq_rules.specs.Turns.{Instance, over}
use Rattle.pq_rules.specs.Relations.{Each}
use Rattle.pq_rules.specs.Value.{Trace, Means}
use Rattle.pq_rules.specs.Embedding.{Runs, Embeds}
use Rattle.pq_rules.proofs.Asked.{asked, ended as run_ended}
use Rattle.pq_rules.proofs.LowerReads.{AsksBelow, ask_below, done_below, runs_below, lower_runs}
use Rattle.pq_rules.proofs.OneRead.{once}
use Rattle.pq_rules.proofs.Rings.{Strict}
use Rattle.pq_links.specs.Files.{items_in, nodes_in, nodes_of}
use Rattle.pq_links.specs.declared.file_items.FileItems.{FileItems}
use Rattle.pq_links.specs.declared.files.ParsedFile.{ParsedFile}
use Rattle.pq_schema.specs.SchemaSum.{SchemaSum, SchemaMeans}
use Rattle.pq_schema.specs.declared.queries.resolved.ResolvedReference.{ResolvedReference}
use Rattle.pq_checks.specs.ChecksSum.{ChecksSum, ChecksMeans}
use Rattle.pq_checks.specs.Compile.{AreFaults}
use Rattle.pq_checks.specs.declared.errors.fault.Fault.{Fault}
use Rattle.pq_proto.specs.Compile.{Compiles, IsDefinition, IsDescriptor, has_tree, is_failed, location_of, offset_at, read_in, symbols_of}
use Rattle.pq_proto.specs.Definition.{definition_at}
use Rattle.pq_proto.specs.Descriptor.{descriptor}
use Rattle.pq_proto.specs.aux.Outputs.{output_level, faults_read, items_read, parsed_read, resolved_read, bare_turn, tree_turn, descriptor_starts, descriptor_advances, symbols_starts, symbols_advances, definition_starts, references_turn, target_turn, definition_advances}
use Rattle.pq_proto.specs.aux.RuleSet.{text_read, imports_read, links_read, defs_read, scope_read, ring_read, own_name, proto_rules}
use Rattle.pq_proto.specs.declared.key.Place.{Place}
use Rattle.pq_proto.specs.declared.key.ProtoKey.{ProtoKey}
use Rattle.pq_proto.specs.declared.key.ProtoKey.TheVariants as keys
use Rattle.pq_proto.specs.declared.queries.definition.DefinitionPart.{DefinitionPart}
use Rattle.pq_proto.specs.declared.queries.definition.DefinitionPart.TheVariants as definitions
use Rattle.pq_proto.specs.declared.queries.descriptor.DescriptorPart.{DescriptorPart}
use Rattle.pq_proto.specs.declared.queries.descriptor.DescriptorPart.TheVariants as descriptors
use Rattle.pq_proto.specs.declared.rules.ProtoPart.{ProtoPart}
use Rattle.pq_proto.specs.declared.rules.ProtoPart.TheVariants.{Parsing, Itemizing, Importing, LinkingFiles, Defining, Scoping, Resolving, Checking, Diagnosing, Describing, Listing, Locating}
use Rattle.pq_proto.specs.declared.definition.TypeItem.{TypeItem}
use Rattle.pq_proto.specs.declared.value.Location.{Location}
use Rattle.pq_proto.specs.declared.value.ProtoValue.{ProtoValue}
use Rattle.pq_proto.specs.declared.value.ProtoValue.TheVariants as values
use Rattle.pq_checks.proofs.Existence.{resolved_exist}

abbrev A : Type 0
A = Answer ProtoKey ProtoValue

pub names_back : (ring : List (List ℕ)) → map own_name (map (λ f. keys.Linked f) ring) ≡ ring
names_back [] = refl
names_back (f ∷ fs) = ap (λ xs. f ∷ xs) (names_back fs)

module _ (order : ProtoKey → ProtoKey → Ordering) (loose : Bool) (files : Sources)
    (order_is : (f h : List ℕ) → order (keys.Linked f) (keys.Linked h) ≡ slice_cmp nat_cmp f h) (strict : Strict order) where
  abbrev pub m : Instance ProtoKey ProtoPart ProtoValue
  m = over order (proto_rules loose) files

  pub one_link : (f h : List ℕ) → keys.Linked f ≡ keys.Linked h → f ≡ h
  one_link f h e = cc

  abbrev pub schema : SchemaSum m loose files
  schema = record {
    input = λ f. keys.Input f;
    text_value = λ x. values.Source x;
    text_read = text_read;
    text_back = λ x. refl;
    input_level = λ f. refl;
    input_is = λ f. refl;
    parse = record { key = λ f. keys.Parse f; part = λ q. Parsing; value = λ x. values.Parse x; read = parsed_read; back = λ x. refl; embeds = record { level_is = λ x. refl; start_is = λ x. refl; advance_is = λ q a. refl } };
    items = record { key = λ f. keys.Items f; part = λ q. Itemizing; value = λ x. values.Items x; read = items_read; back = λ x. refl; embeds = record { level_is = λ x. refl; start_is = λ x. refl; advance_is = λ q a. refl } };
    imports = record { key = λ f. keys.Imports f; part = λ q. Importing; value = λ x. values.Imports x; read = imports_read; back = λ x. refl; embeds = record { level_is = λ x. refl; start_is = λ x. refl; advance_is = λ q a. refl } };
    linked = record { key = λ f. keys.Linked f; part = λ q. LinkingFiles q; value = λ x. values.Linked x; read = links_read; back = λ x. refl; embeds = record { level_is = λ x. refl; start_is = λ x. refl; advance_is = λ q a. refl } };
    defs = record { key = λ f. keys.Defs f; part = λ q. Defining; value = λ x. values.Defs x; read = defs_read; back = λ x. refl; embeds = record { level_is = λ x. refl; start_is = λ x. refl; advance_is = λ q a. refl } };
    scope = record { key = λ f. keys.Scope f; part = λ q. Scoping q; value = λ x. values.Scope x; read = scope_read; back = λ x. refl; embeds = record { level_is = λ x. refl; start_is = λ x. refl; advance_is = λ q a. refl } };
    resolved = record { key = λ f. keys.Resolved f; part = λ q. Resolving q; value = λ x. values.Resolved x; embeds = record { level_is = λ x. refl; start_is = λ x. refl; advance_is = λ q a. refl } };
    ring_read = λ r. refl;
    one_link = one_link;
    order_is = order_is;
    strict = strict.not_both;
  }

  abbrev pub checks : ChecksSum m loose files schema
  checks = record {
    referred_read = resolved_read;
    ring_files = ring_read;
    referred_back = λ x. refl;
    ring_back = λ ring. ap (λ xs. Some xs) (names_back ring);
    no_ring = λ l. refl;
    checks = record { key = λ f. keys.Checks f; part = λ q. Checking q; value = λ x. values.Checks x; read = faults_read; back = λ x. refl; embeds = record { level_is = λ x. refl; start_is = λ x. refl; advance_is = λ q a. refl } };
    diagnostics = record { key = λ f. keys.Diagnostics f; part = λ q. Diagnosing q; value = λ x. values.Diagnostics x; embeds = record { level_is = λ x. refl; start_is = λ x. refl; advance_is = λ q a. refl } };
  }

  -- ---- runs of right answers

  -- the first read of a run, and the run after it
  read_one : {Q W : Type 0} (advances : Q → A → Turn ProtoKey Q W) (k : ProtoKey) (q : Q) (es : Trace ProtoKey ProtoValue) (w : W)
      → Runs advances (Ask k q) es (Done w) → Each (λ e. Means m e.0 e.1) es
      → (a : A) × (rest : Trace ProtoKey ProtoValue) × Means m k a × Runs advances (advances q a) rest (Done w) × Each (λ e. Means m e.0 e.1) rest
  read_one advances k q es w r t =
      let a = asked advances k q es w r in
      let told = subst (λ (xs : Trace ProtoKey ProtoValue). Each (λ e. Means m e.0 e.1) xs) a.2 t in
      (a.0, a.1, told.0, a.3, told.1)

  -- a run from a value is at its end
  ended : {Q W : Type 0} (advances : Q → A → Turn ProtoKey Q W) (v : W) (es : Trace ProtoKey ProtoValue) (w : W) → Runs advances (Done v) es (Done w) → w ≡ v
  ended advances v es w r = (run_ended advances v w es r).1

  -- the turns of a query that ask keys of lower levels alone
  abbrev IsLow : {Q W : Type 0} → Turn ProtoKey Q W → Type 0
  IsLow t = AsksBelow m output_level t

  module _ (t : SchemaMeans m loose files schema) (u : ChecksMeans m loose files schema checks) where
    parsed_is : (f : List ℕ) (a : A) → Means m (keys.Parse f) a → parsed_read a ≡ read_in loose files f
    parsed_is f a h = ap parsed_read ((t.parse f a).0 h)

    itemed_is : (f : List ℕ) (a : A) → Means m (keys.Items f) a → items_read a ≡ items_in loose files f
    itemed_is f a h = ap items_read ((t.items f a).0 h)

    -- ---- symbols

    pub symbols_embed : Embeds m (λ f. keys.Symbols f) (λ (q : Unit {0}). Listing) (λ v. values.Symbols v) output_level symbols_starts (λ q a. symbols_advances a)
    symbols_embed = record { level_is = λ x. refl; start_is = λ x. refl; advance_is = λ q a. refl }

    symbols_are : (f : List ℕ) (a : A) → Means m (keys.Symbols f) a → a ≡ Value (values.Symbols (symbols_of (read_in loose files f)))
    symbols_are f a h =
        let o = once m (λ x. keys.Symbols x) (λ (q : Unit {0}). Listing) (λ v. values.Symbols v) output_level symbols_starts (λ q b. symbols_advances b) symbols_embed
        (λ x. keys.Parse x) (λ x. tt) (λ x b. symbols_of (parsed_read b)) (λ x. refl) (λ x b. refl) (λ x. omega arith) f a h in
        o.2 ∙ ap (λ (p : ParsedFile). Value (values.Symbols (symbols_of p))) (parsed_is f o.0 o.1)

    -- ---- descriptors

    abbrev described : List ℕ → FileItems → List ResolvedReference → List ℕ
    described f i rs = compact_text (descriptor rs f (nodes_in i))

    -- what is sent, by whether there is a tree and whether an error is severe
    abbrev sent : Bool → Bool → List ℕ → List ℕ
    sent tree failed text = cond (tree && not failed) text (codes "null")

    none_sent : (tree : Bool) (text : List ℕ) → sent tree true text ≡ codes "null"
    none_sent true text = refl
    none_sent false text = refl

    bare_low : (f : List ℕ) (failed : Bool) → IsLow (bare_turn f failed)
    bare_low f true = done_below m output_level (codes "null")
    bare_low f false = ask_below m output_level (keys.Items f) (descriptors.ReadItems f) (omega arith)

    tree_low : (f : List ℕ) (i : FileItems) (tree : Bool) → IsLow (tree_turn f i tree)
    tree_low f i true = ask_below m output_level (keys.Resolved f) (descriptors.ReadResolved f i) (omega arith)
    tree_low f i false = done_below m output_level (codes "null")

    descriptor_low : (q : DescriptorPart) (a : A) → IsLow (descriptor_advances q a)
    descriptor_low (descriptors.ReadChecks f) a = bare_low f (is_failed (faults_read a))
    descriptor_low (descriptors.ReadItems f) a = tree_low f (items_read a) (has_tree (items_read a))
    descriptor_low (descriptors.ReadResolved f i) a = done_below m output_level _

    tree_is : (f : List ℕ) (fs : List Fault) (tree : Bool) → has_tree (items_in loose files f) ≡ tree → is_failed fs ≡ false → AreFaults loose files f fs
        → (es : Trace ProtoKey ProtoValue) (w : List ℕ) → Runs descriptor_advances (tree_turn f (items_in loose files f) tree) es (Done w)
        → Each (λ e. Means m e.0 e.1) es → IsDescriptor loose files f w
    tree_is f fs true is sound i es w r reads =
        let here = items_in loose files f in
        let o = read_one descriptor_advances (keys.Resolved f) (descriptors.ReadResolved f here) es w r reads in
        let rs = (t.resolved f o.0).0 o.2 in
        let end = ended descriptor_advances (described f here (resolved_read o.0)) o.1 w o.3 in
        let by : w ≡ described f here rs.0 = end ∙ ap (λ (a : A). described f here (resolved_read a)) rs.1 in
        (fs, rs.0, i, rs.2, by ∙ sym (ap₂ (λ (b c : Bool). sent b c (described f here rs.0)) is sound))
    tree_is f fs false is sound i es w r reads =
        let rs = resolved_exist loose files f in
        let end = ended descriptor_advances (codes "null") es w r in
        (fs, rs.0, i, rs.1, end ∙ sym (ap₂ (λ (b c : Bool). sent b c (described f (items_in loose files f) rs.0)) is sound))

    checked_is : (f : List ℕ) (fs : List Fault) (failed : Bool) → is_failed fs ≡ failed → AreFaults loose files f fs
        → (es : Trace ProtoKey ProtoValue) (w : List ℕ) → Runs descriptor_advances (bare_turn f failed) es (Done w)
        → Each (λ e. Means m e.0 e.1) es → IsDescriptor loose files f w
    checked_is f fs true is i es w r reads =
        let rs = resolved_exist loose files f in
        let text = described f (items_in loose files f) rs.0 in
        let tree = has_tree (items_in loose files f) in
        let end = ended descriptor_advances (codes "null") es w r in
        (fs, rs.0, i, rs.1, end ∙ sym (ap (λ (c : Bool). sent tree c text) is ∙ none_sent tree text))
    checked_is f fs false is i es w r reads =
        let o = read_one descriptor_advances (keys.Items f) (descriptors.ReadItems f) es w r reads in
        let on = subst (λ (p : FileItems). Runs descriptor_advances (tree_turn f p (has_tree p)) o.1 (Done w)) (itemed_is f o.0 o.2) o.3 in
        tree_is f fs (has_tree (items_in loose files f)) refl is i o.1 w on o.4

    pub descriptor_embeds : Embeds m (λ f. keys.Descriptor f) (λ q. Describing q) (λ v. values.Descriptor v) output_level descriptor_starts descriptor_advances
    descriptor_embeds = record { level_is = λ x. refl; start_is = λ x. refl; advance_is = λ q a. refl }

    descriptor_is : (f : List ℕ) (a : A) → Means m (keys.Descriptor f) a → (w : List ℕ) × (a ≡ Value (values.Descriptor w)) × IsDescriptor loose files f w
    descriptor_is f a h =
        let r = lower_runs m (λ x. keys.Descriptor x) (λ q. Describing q) (λ v. values.Descriptor v) output_level descriptor_starts descriptor_advances descriptor_embeds (omega arith)
        (λ x. runs_below m output_level descriptor_advances descriptor_low (descriptor_starts x) (ask_below m output_level (keys.Checks x) (descriptors.ReadChecks x) (omega arith))) f a h in
        let o = read_one descriptor_advances (keys.Checks f) (descriptors.ReadChecks f) r.0 r.1 r.2 r.4 in
        let d = (u.checks f o.0).0 o.2 in
        let on : Runs descriptor_advances (bare_turn f (is_failed d.0)) o.1 (Done r.1) =
        subst (λ (b : A). Runs descriptor_advances (bare_turn f (is_failed (faults_read b))) o.1 (Done r.1)) {y = Value (values.Checks d.0)} d.1 o.3 in
        (r.1, r.3, checked_is f d.0 (is_failed d.0) refl d.2 o.1 r.1 on o.4)

    -- ---- definitions

    references_low : (f : List ℕ) (file : ParsedFile) (o : Option ℕ) → IsLow (references_turn f file o)
    references_low f file (Some offset) = ask_below m output_level (keys.Resolved f) (definitions.ReadResolved offset file) (omega arith)
    references_low f file None = done_below m output_level None

    target_low : (x : Option TypeItem) → IsLow (target_turn x)
    target_low (Some x) = ask_below m output_level (keys.Parse x.file) (definitions.ReadTarget x) (omega arith)
    target_low None = done_below m output_level None

    definition_low : (q : DefinitionPart) (a : A) → IsLow (definition_advances q a)
    definition_low (definitions.ReadFile f place) a = references_low f (parsed_read a) (offset_at (parsed_read a) place)
    definition_low (definitions.ReadResolved offset file) a = target_low (definition_at (nodes_of file) offset (resolved_read a))
    definition_low (definitions.ReadTarget x) a = done_below m output_level _

    abbrev located : Option TypeItem → Option Location
    located x = option_and_then (λ (y : TypeItem). location_of y (read_in loose files y.file)) x

    target_is : (x : Option TypeItem) (es : Trace ProtoKey ProtoValue) (w : Option Location) → Runs definition_advances (target_turn x) es (Done w)
        → Each (λ e. Means m e.0 e.1) es → w ≡ located x
    target_is (Some x) es w r reads =
        let o = read_one definition_advances (keys.Parse x.file) (definitions.ReadTarget x) es w r reads in
        ended definition_advances (location_of x (parsed_read o.0)) o.1 w o.3 ∙ ap (location_of x) (parsed_is x.file o.0 o.2)
    target_is None es w r reads = ended definition_advances None es w r

    references_are : (f : List ℕ) (place : Place) (o : Option ℕ) → offset_at (read_in loose files f) place ≡ o → (es : Trace ProtoKey ProtoValue) (w : Option Location)
        → Runs definition_advances (references_turn f (read_in loose files f) o) es (Done w) → Each (λ e. Means m e.0 e.1) es → IsDefinition loose files f place w
    references_are f place (Some offset) is es w r reads =
        let file = read_in loose files f in
        let o = read_one definition_advances (keys.Resolved f) (definitions.ReadResolved offset file) es w r reads in
        let rs = (t.resolved f o.0).0 o.2 in
        let found = λ (xs : List ResolvedReference). definition_at (nodes_of file) offset xs in
        let on : Runs definition_advances (target_turn (found rs.0)) o.1 (Done w) =
        subst (λ (a : A). Runs definition_advances (target_turn (found (resolved_read a))) o.1 (Done w)) rs.1 o.3 in
        let by : w ≡ located (found rs.0) = target_is (found rs.0) o.1 w on o.4 in
        (rs.0, rs.2, by ∙ sym (ap (λ (p : Option ℕ). located (option_and_then (λ (n : ℕ). definition_at (nodes_of file) n rs.0) p)) is))
    references_are f place None is es w r reads =
        let file = read_in loose files f in
        let rs = resolved_exist loose files f in
        let by : w ≡ None = ended definition_advances None es w r in
        (rs.0, rs.1, by ∙ sym (ap (λ (p : Option ℕ). located (option_and_then (λ (n : ℕ). definition_at (nodes_of file) n rs.0) p)) is))

    by_file : (f : List ℕ) (place : Place) (es : Trace ProtoKey ProtoValue) (w : Option Location)
        → Runs definition_advances (references_turn f (read_in loose files f) (offset_at (read_in loose files f) place)) es (Done w) → Each (λ e. Means m e.0 e.1) es → IsDefinition loose files f place w
    by_file f place es w r reads = references_are f place (offset_at (read_in loose files f) place) refl es w r reads

    abbrev pub Spot : Type 0
    Spot = List ℕ × Place

    abbrev pub spot_starts : Spot → Turn ProtoKey DefinitionPart (Option Location)
    spot_starts x = definition_starts x.0 x.1

    pub definition_embeds : Embeds m (λ (x : Spot). keys.Definition x.0 x.1) (λ q. Locating q) (λ v. values.Definition v) output_level spot_starts definition_advances
    definition_embeds = record { level_is = λ x. refl; start_is = λ x. refl; advance_is = λ q a. refl }

    definition_is : (f : List ℕ) (place : Place) (a : A) → Means m (keys.Definition f place) a
        → (w : Option Location) × (a ≡ Value (values.Definition w)) × IsDefinition loose files f place w
    definition_is f place a h =
        let r = lower_runs m (λ (x : Spot). keys.Definition x.0 x.1) (λ q. Locating q) (λ v. values.Definition v) output_level spot_starts definition_advances definition_embeds (omega arith)
        (λ x. runs_below m output_level definition_advances definition_low (spot_starts x) (ask_below m output_level (keys.Parse x.0) (definitions.ReadFile x.0 x.1) (omega arith))) (f, place) a h in
        let o = read_one definition_advances (keys.Parse f) (definitions.ReadFile f place) r.0 r.1 r.2 r.4 in
        let on : Runs definition_advances (references_turn f (read_in loose files f) (offset_at (read_in loose files f) place)) o.1 (Done r.1) =
        subst (λ (p : ParsedFile). Runs definition_advances (references_turn f p (offset_at p place)) o.1 (Done r.1)) (parsed_is f o.0 o.2) o.3 in
        (r.1, r.3, by_file f place o.1 r.1 on o.4)

    -- ---- all keys

    pub means_compiles : (k : ProtoKey) (a : A) → Means m k a → Compiles loose files k a
    means_compiles (keys.Input f) a h = (t.input f a).0 h
    means_compiles (keys.Parse f) a h = (t.parse f a).0 h
    means_compiles (keys.Items f) a h = (t.items f a).0 h
    means_compiles (keys.Imports f) a h = (t.imports f a).0 h
    means_compiles (keys.Linked f) a h = (t.linked f a).0 h
    means_compiles (keys.Defs f) a h = (t.defs f a).0 h
    means_compiles (keys.Scope f) a h = (t.scope f a).0 h
    means_compiles (keys.Resolved f) a h = (t.resolved f a).0 h
    means_compiles (keys.Checks f) a h = (u.checks f a).0 h
    means_compiles (keys.Diagnostics f) a h = (u.diagnostics f a).0 h
    means_compiles (keys.Descriptor f) a h = descriptor_is f a h
    means_compiles (keys.Symbols f) a h = symbols_are f a h
    means_compiles (keys.Definition f place) a h = definition_is f place a h
