-- Auxiliary: the rule set keeps the laws, by what each query preserves of the names that the
-- sources mention (used by proofs and invariants only).
use Rattle.std.proofs.Common.{◌≡◌, ◌⊎◌, ℕ, ◌≤◌, Bool, true, false, List, [], ◌∷◌, Option, Some, None, refl, sym, ap, subst, inl, inr, arith}
use Rattle.std.specs.Prelude.{IsSome, ◌↔◌, cond}
use Rattle.std.specs.declared.cmp.Ordering.{Ordering}
use Rattle.std.specs.declared.cmp.Ordering.TheVariants.{Equal}
use Rattle.pq_inputs.specs.Sources.{Sources}
use Rattle.pq_rules.specs.Laws.{Laws}
use Rattle.pq_rules.specs.declared.turn.Turn.TheVariants.{Ask}
use Rattle.pq_rules.specs.declared.turn.Answer.{Answer}
use Rattle.pq_rules.specs.declared.turn.Answer.TheVariants.{Value, Cycle}
use Rattle.pq_rules.specs.Turns.{Instance, over, IsLower}
use Rattle.pq_rules.specs.Relations.{In}
use Rattle.pq_rules.specs.Value.{ComesTo}
use Rattle.pq_rules.proofs.Embedded.{embedded_falls}
use Rattle.pq_rules.proofs.Preserved.{TurnIn, AnswerIn, Preserves, asked_in, embedded_in}
use Rattle.pq_rules.specs.aux.KeysBy.{keys_by, in_keys_by, keys_by_in}
use Rattle.pq_links.specs.aux.Mentioned.{all_mentioned}
use Rattle.pq_links.specs.Files.{read_file, file_imports, items_of, nodes_in, nodes_of}
use Rattle.pq_links.specs.aux.Queries.{linked_starts, linked_advances, linked_left}
use Rattle.pq_links.specs.aux.Falls.{linked_falls}
use Rattle.pq_links.specs.declared.file_items.FileItems.{FileItems}
use Rattle.pq_links.specs.declared.files.ParsedFile.{ParsedFile}
use Rattle.pq_links.proofs.Mentions.{text_in_kind}
use Rattle.pq_links.proofs.NameKinds.{IfImportsIn, LinksIn, LinkingIn, no_links_in, linked_starts_in, linked_advances_in}
use Rattle.pq_schema.specs.aux.Queries.{scope_starts, scope_advances, scope_left, resolved_starts, resolved_advances, resolved_left}
use Rattle.pq_schema.specs.aux.Falls.{scope_falls, resolved_falls}
use Rattle.pq_schema.specs.aux.NameKinds.{ScopeIn, ScopePartIn, scope_starts_in, scope_advances_in}
use Rattle.pq_schema.specs.declared.queries.resolved.ResolvedReference.{ResolvedReference}
use Rattle.pq_schema.proofs.ResolvedKinds.{ResolutionIn, ResolvedIn, ResolvedPartIn, resolved_starts_in, resolved_advances_in}
use Rattle.pq_schema.specs.declared.search.resolution.Resolution.{Resolution}
use Rattle.pq_schema.specs.declared.search.resolution.Resolution.TheVariants as resolutions
use Rattle.pq_syntax.specs.declared.tree.Node.{Node}
use Rattle.pq_checks.specs.aux.Falls.{check_falls}
use Rattle.pq_checks.specs.aux.Queries.{check_starts, check_advances, check_left}
use Rattle.pq_checks.specs.Diagnostics.{has_tree as has_parsed_tree}
use Rattle.pq_checks.specs.aux.DiagnosticsTurns.{diagnostics_advances, diagnostics_left, diagnostics_falls, file_turn}
use Rattle.pq_checks.specs.declared.queries.diagnostics.DiagnosticsPart.{DiagnosticsPart}
use Rattle.pq_checks.specs.declared.queries.diagnostics.DiagnosticsPart.TheVariants as diagnostics
use Rattle.pq_checks.specs.declared.errors.fault.Fault.{Fault}
use Rattle.pq_links.specs.Place.{place}
use Rattle.pq_links.specs.declared.places.Part.TheVariants as part
use Rattle.pq_proto.specs.Compile.{has_tree, is_failed, offset_at}
use Rattle.pq_proto.specs.Definition.{definition_at, type_item, holds}
use Rattle.pq_checks.specs.aux.CheckKinds.{AsksIn, CheckPartIn, check_starts_in, check_advances_in}
use Rattle.pq_proto.specs.Levels.{level_of}
use Rattle.pq_proto.specs.aux.Outputs.{faults_read, items_read, parsed_read, resolved_read, bare_turn, tree_turn, descriptor_advances, descriptor_left, descriptor_falls, references_turn, target_turn, definition_advances, definition_left, definition_falls}
use Rattle.pq_proto.specs.aux.RuleSet.{text_read, imports_read, links_read, defs_read, scope_read, check_words, proto_file, proto_start, proto_advance, proto_left, proto_rules, descriptor_turn, definition_turn, diagnostics_turn, own_name, makers, proto_reach}
use Rattle.pq_proto.specs.declared.key.ProtoKey.{ProtoKey}
use Rattle.pq_proto.specs.declared.key.ProtoKey.TheVariants as keys
use Rattle.pq_proto.specs.declared.queries.definition.DefinitionPart.{DefinitionPart}
use Rattle.pq_proto.specs.declared.queries.definition.DefinitionPart.TheVariants as definitions
use Rattle.pq_proto.specs.declared.queries.descriptor.DescriptorPart.{DescriptorPart}
use Rattle.pq_proto.specs.declared.queries.descriptor.DescriptorPart.TheVariants as descriptors
use Rattle.pq_proto.specs.declared.rules.ProtoPart.{ProtoPart}
use Rattle.pq_proto.specs.declared.rules.ProtoPart.TheVariants.{Parsing, Itemizing, Importing, LinkingFiles, Defining, Scoping, Resolving, Checking, Diagnosing, Describing, Listing, Locating}
use Rattle.pq_proto.specs.declared.definition.TypeItem.{TypeItem}
use Rattle.pq_proto.specs.declared.value.ProtoValue.{ProtoValue}
use Rattle.pq_proto.specs.declared.value.ProtoValue.TheVariants as values

pub proto_inputs : (k : ProtoKey) → (level_of k ≡ 0) ↔ IsSome (proto_file k)
proto_inputs (keys.Input f) = (λ e. refl, λ e. refl)
proto_inputs k = (λ e. cc, λ e. cc)

-- ---- each further question lowers what is left

proto_falls : (loose : Bool) (p : ProtoPart) (a : Answer ProtoKey ProtoValue) (q : ProtoKey) (r : ProtoPart) → proto_advance loose p a ≡ Ask q r → IsLower (proto_left r) (proto_left p)
proto_falls loose (LinkingFiles p) a q r e =
    embedded_falls (λ x. LinkingFiles x) (λ v. values.Linked v) proto_left linked_left (linked_advances (λ n. keys.Linked n) (imports_read a) (links_read a) p) (linked_left p)
    (λ x. refl) (linked_falls (λ n. keys.Linked n) (imports_read a) (links_read a) p) q r e
proto_falls loose (Scoping p) a q r e =
    embedded_falls (λ x. Scoping x) (λ v. values.Scope v) proto_left scope_left (scope_advances (λ n. keys.Defs n) (links_read a) (defs_read a) p) (scope_left p)
    (λ x. refl) (scope_falls (λ n. keys.Defs n) (links_read a) (defs_read a) p) q r e
proto_falls loose (Resolving p) a q r e =
    embedded_falls (λ x. Resolving x) (λ v. values.Resolved v) proto_left resolved_left (resolved_advances (λ n. keys.Items n) (scope_read a) (nodes_in (items_read a)) p) (resolved_left p)
    (λ x. refl) (resolved_falls (λ n. keys.Items n) (scope_read a) (nodes_in (items_read a)) p) q r e
proto_falls loose (Checking p) a q r e =
    embedded_falls (λ x. Checking x) (λ v. values.Checks v) proto_left check_left (check_advances check_words p a) (check_left p)
    (λ x. refl) (check_falls check_words a p) q r e
proto_falls loose (Diagnosing p) a q r e =
    embedded_falls (λ x. Diagnosing x) (λ v. values.Diagnostics v) proto_left diagnostics_left (diagnostics_advances (λ n. keys.Checks n) (faults_read a) (parsed_read a) p) (diagnostics_left p)
    (λ x. refl) (diagnostics_falls (λ n. keys.Checks n) (faults_read a) (parsed_read a) p) q r e
proto_falls loose (Describing p) a q r e =
    embedded_falls (λ x. Describing x) (λ v. values.Descriptor v) proto_left descriptor_left (descriptor_advances p a) (descriptor_left p)
    (λ x. refl) (descriptor_falls p a) q r e
proto_falls loose (Locating p) a q r e =
    embedded_falls (λ x. Locating x) (λ v. values.Definition v) proto_left definition_left (definition_advances p a) (definition_left p)
    (λ x. refl) (definition_falls p a) q r e
proto_falls loose Parsing a q r e = cc
proto_falls loose Itemizing a q r e = cc
proto_falls loose Importing a q r e = cc
proto_falls loose Defining a q r e = cc
proto_falls loose Listing a q r e = cc

-- ---- the keys of names
in_keys : (k : ProtoKey) (ns : List (List ℕ)) → level_of k ≤ 9 → In (own_name k) ns → In k (keys_by makers ns)
in_keys (keys.Input f) ns low i = in_keys_by makers (λ n. keys.Input n) f ns (inl refl) i
in_keys (keys.Parse f) ns low i = in_keys_by makers (λ n. keys.Parse n) f ns (inr (inl refl)) i
in_keys (keys.Items f) ns low i = in_keys_by makers (λ n. keys.Items n) f ns (inr (inr (inl refl))) i
in_keys (keys.Imports f) ns low i = in_keys_by makers (λ n. keys.Imports n) f ns (inr (inr (inr (inl refl)))) i
in_keys (keys.Linked f) ns low i = in_keys_by makers (λ n. keys.Linked n) f ns (inr (inr (inr (inr (inl refl))))) i
in_keys (keys.Defs f) ns low i = in_keys_by makers (λ n. keys.Defs n) f ns (inr (inr (inr (inr (inr (inl refl)))))) i
in_keys (keys.Scope f) ns low i = in_keys_by makers (λ n. keys.Scope n) f ns (inr (inr (inr (inr (inr (inr (inl refl))))))) i
in_keys (keys.Resolved f) ns low i = in_keys_by makers (λ n. keys.Resolved n) f ns (inr (inr (inr (inr (inr (inr (inr (inl refl)))))))) i
in_keys (keys.Checks f) ns low i = in_keys_by makers (λ n. keys.Checks n) f ns (inr (inr (inr (inr (inr (inr (inr (inr (inl refl))))))))) i
in_keys (keys.Diagnostics f) ns low i = in_keys_by makers (λ n. keys.Diagnostics n) f ns (inr (inr (inr (inr (inr (inr (inr (inr (inr (inl refl)))))))))) i
in_keys (keys.Descriptor f) ns low i = let h : 10 ≤ 9 = low in absurd (omega arith)
in_keys (keys.Symbols f) ns low i = let h : 10 ≤ 9 = low in absurd (omega arith)
in_keys (keys.Definition f place) ns low i = let h : 10 ≤ 9 = low in absurd (omega arith)

keys_in : (k : ProtoKey) (ns : List (List ℕ)) → In k (keys_by makers ns) → In (own_name k) ns
keys_in = keys_by_in own_name makers (λ n. refl, (λ n. refl, (λ n. refl, (λ n. refl, (λ n. refl, (λ n. refl, (λ n. refl, (λ n. refl, (λ n. refl, (λ n. refl, tt))))))))))

-- ---- kinds of keys, parts and values: of the names `ns`, up to the level `l`, and of the key `root`
-- or of a level that is asked

abbrev Named : List (List ℕ) → List ℕ → Type 0
Named ns n = In n ns

abbrev KeyIn : List (List ℕ) → ℕ → ProtoKey → ProtoKey → Type 0
KeyIn ns l root k = In (own_name k) ns × (level_of k ≤ l) × ((k ≡ root) ⊎ (level_of k ≤ 9))

abbrev DiagnosticsPartIn : List (List ℕ) → DiagnosticsPart → Type 0
DiagnosticsPartIn ns (diagnostics.ReadFile f) = In f ns
DiagnosticsPartIn ns (diagnostics.ReadChecks file) = Unit {0}

abbrev DescriptorPartIn : List (List ℕ) → DescriptorPart → Type 0
DescriptorPartIn ns (descriptors.ReadChecks f) = In f ns
DescriptorPartIn ns (descriptors.ReadItems f) = In f ns
DescriptorPartIn ns (descriptors.ReadResolved f i) = Unit {0}

abbrev DefinitionPartIn : List (List ℕ) → DefinitionPart → Type 0
DefinitionPartIn ns (definitions.ReadFile f place) = In f ns
DefinitionPartIn ns (definitions.ReadResolved offset file) = Unit {0}
DefinitionPartIn ns (definitions.ReadTarget t) = Unit {0}

abbrev PartIn : List (List ℕ) → ℕ → ProtoPart → Type 0
PartIn ns l (LinkingFiles q) = (4 ≤ l) × LinkingIn (Named ns) q
PartIn ns l (Scoping q) = (6 ≤ l) × ScopePartIn (Named ns) q
PartIn ns l (Resolving q) = (7 ≤ l) × ResolvedPartIn (Named ns) q
PartIn ns l (Checking q) = (8 ≤ l) × CheckPartIn (Named ns) q
PartIn ns l (Diagnosing q) = (9 ≤ l) × DiagnosticsPartIn ns q
PartIn ns l (Describing q) = (10 ≤ l) × DescriptorPartIn ns q
PartIn ns l (Locating q) = (10 ≤ l) × DefinitionPartIn ns q
PartIn ns l _ = Unit {0}

abbrev ValueIn : Bool → List (List ℕ) → ProtoValue → Type 0
ValueIn loose ns (values.Source text) = IfImportsIn (Named ns) (file_imports (items_of (read_file loose text)))
ValueIn loose ns (values.Parse file) = IfImportsIn (Named ns) (file_imports (items_of file))
ValueIn loose ns (values.Items items) = IfImportsIn (Named ns) (file_imports items)
ValueIn loose ns (values.Imports is) = IfImportsIn (Named ns) is
ValueIn loose ns (values.Linked links) = LinksIn (Named ns) links
ValueIn loose ns (values.Scope scope) = ScopeIn (Named ns) scope
ValueIn loose ns (values.Resolved rs) = ResolvedIn (Named ns) rs
ValueIn loose ns _ = Unit {0}

-- ---- what is read of an answer of the kind

text_in : (loose : Bool) (ns : List (List ℕ)) (a : Answer ProtoKey ProtoValue) → AnswerIn (ValueIn loose ns) a → IfImportsIn (Named ns) (file_imports (items_of (read_file loose (text_read a))))
text_in loose ns (Value (values.Source text)) i = i
text_in loose ns (Value v) i = tt
text_in loose ns (Cycle ring) i = tt

parsed_in : (loose : Bool) (ns : List (List ℕ)) (a : Answer ProtoKey ProtoValue) → AnswerIn (ValueIn loose ns) a → IfImportsIn (Named ns) (file_imports (items_of (parsed_read a)))
parsed_in loose ns (Value (values.Parse file)) i = i
parsed_in loose ns (Value v) i = tt
parsed_in loose ns (Cycle ring) i = tt

items_in : (loose : Bool) (ns : List (List ℕ)) (a : Answer ProtoKey ProtoValue) → AnswerIn (ValueIn loose ns) a → IfImportsIn (Named ns) (file_imports (items_read a))
items_in loose ns (Value (values.Items items)) i = i
items_in loose ns (Value v) i = tt
items_in loose ns (Cycle ring) i = tt

imports_in : (loose : Bool) (ns : List (List ℕ)) (a : Answer ProtoKey ProtoValue) → AnswerIn (ValueIn loose ns) a → IfImportsIn (Named ns) (imports_read a)
imports_in loose ns (Value (values.Imports is)) i = i
imports_in loose ns (Value v) i = tt
imports_in loose ns (Cycle ring) i = tt

links_in : (loose : Bool) (ns : List (List ℕ)) (a : Answer ProtoKey ProtoValue) → AnswerIn (ValueIn loose ns) a → LinksIn (Named ns) (links_read a)
links_in loose ns (Value (values.Linked links)) i = i
links_in loose ns (Value v) i = no_links_in (Named ns)
links_in loose ns (Cycle ring) i = no_links_in (Named ns)

scope_in : (loose : Bool) (ns : List (List ℕ)) (a : Answer ProtoKey ProtoValue) → AnswerIn (ValueIn loose ns) a → ScopeIn (Named ns) (scope_read a)
scope_in loose ns (Value (values.Scope scope)) i = i
scope_in loose ns (Value v) i = record { visible = tt; reach = tt }
scope_in loose ns (Cycle ring) i = record { visible = tt; reach = tt }

resolved_in : (loose : Bool) (ns : List (List ℕ)) (a : Answer ProtoKey ProtoValue) → AnswerIn (ValueIn loose ns) a → ResolvedIn (Named ns) (resolved_read a)
resolved_in loose ns (Value (values.Resolved rs)) i = i
resolved_in loose ns (Value v) i = tt
resolved_in loose ns (Cycle ring) i = tt

-- ---- the type at a place is of a file that the references name

TargetIn : List (List ℕ) → Option TypeItem → Type 0
TargetIn ns None = Unit {0}
TargetIn ns (Some t) = In t.file ns

item_in : (ns : List (List ℕ)) (r : Resolution) → ResolutionIn (Named ns) r → TargetIn ns (type_item r)
unfolding TargetIn
item_in ns (resolutions.«Type» target) i = i
item_in ns r i = tt

either_in : (ns : List (List ℕ)) (b : Bool) (x y : Option TypeItem) → TargetIn ns x → TargetIn ns y → TargetIn ns (cond b x y)
either_in ns true x y i j = i
either_in ns false x y i j = j

target_in : (ns : List (List ℕ)) (nodes : List Node) (offset : ℕ) (rs : List ResolvedReference) → ResolvedIn (Named ns) rs → TargetIn ns (definition_at nodes offset rs)
unfolding TargetIn definition_at
target_in ns nodes offset [] i = tt
target_in ns nodes offset (r ∷ rs) i =
    either_in ns (holds (place nodes r.item (part.«Type» r.part)) offset) (type_item r.resolution) (definition_at nodes offset rs)
    (item_in ns r.resolution i.0) (target_in ns nodes offset rs i.1)

module _ (order : ProtoKey → ProtoKey → Ordering) (loose : Bool) (files : Sources) where
  abbrev m : Instance ProtoKey ProtoPart ProtoValue
  m = over order (proto_rules loose) files

  module _ (ns : List (List ℕ)) (l : ℕ) (root : ProtoKey) (mentions : (w : List ℕ) → In w (all_mentioned loose files) → In w ns) where
    abbrev N : List ℕ → Type 0
    N = Named ns

    abbrev KIn : ProtoKey → Type 0
    KIn = KeyIn ns l root

    abbrev PIn : ProtoPart → Type 0
    PIn = PartIn ns l

    -- a key of a level that is asked
    asks : (k : ProtoKey) → In (own_name k) ns → level_of k ≤ l → level_of k ≤ 9 → KIn k
    asks k i low asked = (i, low, inr asked)

    inputs_in : (k : ProtoKey) → level_of k ≡ 0 → ValueIn loose ns (m.input k)
    inputs_in (keys.Input f) at = text_in_kind N loose files mentions f
    inputs_in k at = cc

    checks_ask : 8 ≤ l → AsksIn KIn check_words N
    checks_ask h = record {
      items = λ f i. asks (keys.Items f) i (omega arith) (omega arith);
      imports = λ f i. asks (keys.Imports f) i (omega arith) (omega arith);
      linked = λ f i. asks (keys.Linked f) i (omega arith) (omega arith);
      defs = λ f i. asks (keys.Defs f) i (omega arith) (omega arith);
      scope = λ f i. asks (keys.Scope f) i (omega arith) (omega arith);
      resolved = λ f i. asks (keys.Resolved f) i (omega arith) (omega arith);
    }

    starts_in : (k : ProtoKey) → KIn k → TurnIn KIn PIn (ValueIn loose ns) (proto_start k)
    starts_in (keys.Input f) i = tt
    starts_in (keys.Parse f) i = let h : 1 ≤ l = i.1 in (asks (keys.Input f) i.0 (omega arith) (omega arith), tt)
    starts_in (keys.Items f) i = let h : 2 ≤ l = i.1 in (asks (keys.Parse f) i.0 (omega arith) (omega arith), tt)
    starts_in (keys.Imports f) i = let h : 3 ≤ l = i.1 in (asks (keys.Items f) i.0 (omega arith) (omega arith), tt)
    starts_in (keys.Linked f) i =
        let h : 4 ≤ l = i.1 in
        embedded_in KIn (LinkingIn N) (LinksIn N) PIn (ValueIn loose ns) (λ q. LinkingFiles q) (λ v. values.Linked v)
        (λ q j. (h, j)) (λ v j. j) (linked_starts (λ n. keys.Imports n) f)
        (linked_starts_in KIn N (λ n. keys.Imports n) (λ n. keys.Linked n) (λ x j. asks (keys.Imports x) j (omega arith) (omega arith))
        (λ x j. asks (keys.Linked x) j h (omega arith)) f i.0)
    starts_in (keys.Defs f) i = let h : 5 ≤ l = i.1 in (asks (keys.Items f) i.0 (omega arith) (omega arith), tt)
    starts_in (keys.Scope f) i =
        let h : 6 ≤ l = i.1 in
        embedded_in KIn (ScopePartIn N) (ScopeIn N) PIn (ValueIn loose ns) (λ q. Scoping q) (λ v. values.Scope v)
        (λ q j. (h, j)) (λ v j. j) (scope_starts (λ n. keys.Linked n) f)
        (scope_starts_in KIn N (λ n. keys.Linked n) (λ n. keys.Defs n) (λ x j. asks (keys.Linked x) j (omega arith) (omega arith))
        (λ x j. asks (keys.Defs x) j (omega arith) (omega arith)) f i.0)
    starts_in (keys.Resolved f) i =
        let h : 7 ≤ l = i.1 in
        embedded_in KIn (ResolvedPartIn N) (ResolvedIn N) PIn (ValueIn loose ns) (λ q. Resolving q) (λ v. values.Resolved v)
        (λ q j. (h, j)) (λ v j. j) (resolved_starts (λ n. keys.Scope n) f)
        (resolved_starts_in N KIn (λ n. keys.Scope n) (λ x j. asks (keys.Scope x) j (omega arith) (omega arith)) f i.0)
    starts_in (keys.Checks f) i =
        let h : 8 ≤ l = i.1 in
        embedded_in KIn (CheckPartIn N) (λ (fs : List Fault). Unit {0}) PIn (ValueIn loose ns) (λ q. Checking q) (λ v. values.Checks v)
        (λ q j. (h, j)) (λ v j. j) (check_starts (λ n. keys.Items n) f)
        (check_starts_in KIn check_words N (checks_ask h) f i.0)
    starts_in (keys.Diagnostics f) i = let h : 9 ≤ l = i.1 in (asks (keys.Parse f) i.0 (omega arith) (omega arith), (h, i.0))
    starts_in (keys.Descriptor f) i = let h : 10 ≤ l = i.1 in (asks (keys.Checks f) i.0 (omega arith) (omega arith), (h, i.0))
    starts_in (keys.Symbols f) i = let h : 10 ≤ l = i.1 in (asks (keys.Parse f) i.0 (omega arith) (omega arith), tt)
    starts_in (keys.Definition f place) i = let h : 10 ≤ l = i.1 in (asks (keys.Parse f) i.0 (omega arith) (omega arith), (h, i.0))

    diagnoses : (f : List ℕ) (file : ParsedFile) (tree : Bool) → 9 ≤ l → In f ns → TurnIn KIn PIn (ValueIn loose ns) (diagnostics_turn (file_turn (λ n. keys.Checks n) f file tree))
    diagnoses f file true h i = (asks (keys.Checks f) i (omega arith) (omega arith), (h, tt))
    diagnoses f file false h i = tt

    describes : (f : List ℕ) (failed : Bool) → 10 ≤ l → In f ns → TurnIn KIn PIn (ValueIn loose ns) (descriptor_turn (bare_turn f failed))
    describes f true h i = tt
    describes f false h i = (asks (keys.Items f) i (omega arith) (omega arith), (h, i))

    trees : (f : List ℕ) (items : FileItems) (tree : Bool) → 10 ≤ l → In f ns → TurnIn KIn PIn (ValueIn loose ns) (descriptor_turn (tree_turn f items tree))
    trees f items true h i = (asks (keys.Resolved f) i (omega arith) (omega arith), (h, tt))
    trees f items false h i = tt

    locates : (f : List ℕ) (file : ParsedFile) (offset : Option ℕ) → 10 ≤ l → In f ns → TurnIn KIn PIn (ValueIn loose ns) (definition_turn (references_turn f file offset))
    locates f file (Some offset) h i = (asks (keys.Resolved f) i (omega arith) (omega arith), (h, tt))
    locates f file None h i = tt

    targets : (t : Option TypeItem) → 10 ≤ l → TargetIn ns t → TurnIn KIn PIn (ValueIn loose ns) (definition_turn (target_turn t))
    unfolding TargetIn
    targets (Some t) h i = (asks (keys.Parse t.file) i (omega arith) (omega arith), (h, tt))
    targets None h i = tt

    advances_in : (p : ProtoPart) (a : Answer ProtoKey ProtoValue) → PIn p → AnswerIn (ValueIn loose ns) a
        → TurnIn KIn PIn (ValueIn loose ns) (proto_advance loose p a)
    advances_in Parsing a i j = text_in loose ns a j
    advances_in Itemizing a i j = parsed_in loose ns a j
    advances_in Importing a i j = items_in loose ns a j
    advances_in (LinkingFiles p) a i j =
        let h : 4 ≤ l = i.0 in
        embedded_in KIn (LinkingIn N) (LinksIn N) PIn (ValueIn loose ns) (λ q. LinkingFiles q) (λ v. values.Linked v)
        (λ q x. (h, x)) (λ v x. x) (linked_advances (λ n. keys.Linked n) (imports_read a) (links_read a) p)
        (linked_advances_in KIn N (λ n. keys.Imports n) (λ n. keys.Linked n) (λ x y. asks (keys.Imports x) y (omega arith) (omega arith))
        (λ x y. asks (keys.Linked x) y h (omega arith)) (imports_read a) (links_read a) p (imports_in loose ns a j) (links_in loose ns a j) i.1)
    advances_in Defining a i j = tt
    advances_in (Scoping p) a i j =
        let h : 6 ≤ l = i.0 in
        embedded_in KIn (ScopePartIn N) (ScopeIn N) PIn (ValueIn loose ns) (λ q. Scoping q) (λ v. values.Scope v)
        (λ q x. (h, x)) (λ v x. x) (scope_advances (λ n. keys.Defs n) (links_read a) (defs_read a) p)
        (scope_advances_in KIn N (λ n. keys.Linked n) (λ n. keys.Defs n) (λ x y. asks (keys.Linked x) y (omega arith) (omega arith))
        (λ x y. asks (keys.Defs x) y (omega arith) (omega arith)) (links_read a) (defs_read a) p (links_in loose ns a j) i.1)
    advances_in (Resolving p) a i j =
        let h : 7 ≤ l = i.0 in
        embedded_in KIn (ResolvedPartIn N) (ResolvedIn N) PIn (ValueIn loose ns) (λ q. Resolving q) (λ v. values.Resolved v)
        (λ q x. (h, x)) (λ v x. x) (resolved_advances (λ n. keys.Items n) (scope_read a) (nodes_in (items_read a)) p)
        (resolved_advances_in N KIn (λ n. keys.Items n) (λ x y. asks (keys.Items x) y (omega arith) (omega arith))
        (scope_read a) (nodes_in (items_read a)) p (scope_in loose ns a j) i.1)
    advances_in (Checking p) a i j =
        let h : 8 ≤ l = i.0 in
        embedded_in KIn (CheckPartIn N) (λ (fs : List Fault). Unit {0}) PIn (ValueIn loose ns) (λ q. Checking q) (λ v. values.Checks v)
        (λ q x. (h, x)) (λ v x. x) (check_advances check_words p a)
        (check_advances_in KIn check_words N (checks_ask h) p a (imports_in loose ns a j) i.1)
    advances_in (Diagnosing (diagnostics.ReadFile f)) a i j = diagnoses f (parsed_read a) (has_parsed_tree (parsed_read a)) i.0 i.1
    advances_in (Diagnosing (diagnostics.ReadChecks file)) a i j = tt
    advances_in (Describing (descriptors.ReadChecks f)) a i j = describes f (is_failed (faults_read a)) i.0 i.1
    advances_in (Describing (descriptors.ReadItems f)) a i j = trees f (items_read a) (has_tree (items_read a)) i.0 i.1
    advances_in (Describing (descriptors.ReadResolved f file)) a i j = tt
    advances_in Listing a i j = tt
    advances_in (Locating (definitions.ReadFile f place)) a i j = locates f (parsed_read a) (offset_at (parsed_read a) place) i.0 i.1
    advances_in (Locating (definitions.ReadResolved offset file)) a i j =
        targets (definition_at (nodes_of file) offset (resolved_read a)) i.0 (target_in ns (nodes_of file) offset (resolved_read a) (resolved_in loose ns a j))
    advances_in (Locating (definitions.ReadTarget t)) a i j = tt

    preserves : Preserves m KIn PIn (ValueIn loose ns)
    preserves = record { inputs = λ k at i. inputs_in k at; starts = starts_in; advances = advances_in }

  no_higher : (k q : ProtoKey) (p : ProtoPart) → ComesTo m k (Ask q p) → level_of q ≤ level_of k
  no_higher k q p c =
      let ns : List (List ℕ) = own_name k ∷ all_mentioned loose files in
      let l = level_of k in
      (asked_in m (KeyIn ns l k) (PartIn ns l) (ValueIn loose ns) (preserves ns l k (λ w i. inr i)) k q p (inl refl, omega arith, inl refl) c).1

  -- the name of a key that is reached
  reach_name : (k x : ProtoKey) → In x (proto_reach loose files k) → In (own_name x) (own_name k ∷ all_mentioned loose files)
  reach_name k x (inl e) = inl (ap own_name e)
  reach_name k x (inr i) = keys_in x (own_name k ∷ all_mentioned loose files) i

  stays : (k x q : ProtoKey) (p : ProtoPart) → In x (proto_reach loose files k) → ComesTo m x (Ask q p) → In q (proto_reach loose files k)
  stays k x q p i c =
      let ns : List (List ℕ) = own_name k ∷ all_mentioned loose files in
      let l = level_of x in
      let a = asked_in m (KeyIn ns l x) (PartIn ns l) (ValueIn loose ns) (preserves ns l x (λ w j. inr j)) x q p (reach_name k x i, omega arith, inl refl) c in
      elim a.2 [
        | inl e ↦ subst (λ (y : ProtoKey). In y (proto_reach loose files k)) (sym e) i
        | inr low ↦ inr (in_keys q ns low a.0)
      ]

  pub proto_lawful : ((a b : ProtoKey) → order a b ≡ Equal → a ≡ b) → Laws m (proto_reach loose files)
  proto_lawful exact = record {
    no_higher = no_higher;
    falls = proto_falls loose;
    reaches = λ k. inl refl;
    stays = stays;
    exact = exact;
  }
