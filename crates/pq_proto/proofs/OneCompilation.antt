-- A key compiles to one answer, and each key has an answer. So what a key compiles to is what it
-- means: the other half of the law `proto_values`.
use Rattle.std.proofs.Common.{◌≡◌, ℕ, Bool, true, false, List, Option, Some, None, refl, sym, ap, subst, ◌∙◌, arith}
use Rattle.std.specs.Cmp.Lexicographic.{slice_cmp}
use Rattle.std.specs.Ordering.{nat_cmp}
use Rattle.std.specs.declared.cmp.Ordering.{Ordering}
use Rattle.pq_inputs.specs.Sources.{Sources}
use Rattle.pq_rules.specs.declared.turn.Answer.{Answer}
use Rattle.pq_rules.specs.declared.turn.Answer.TheVariants.{Value}
use Rattle.pq_rules.specs.Turns.{Instance}
use Rattle.pq_rules.specs.Value.{Means}
use Rattle.pq_rules.proofs.OneRead.{makes_once}
use Rattle.pq_rules.proofs.Rings.{Strict}
use Rattle.pq_rules.proofs.Uniqueness.{means_one}
use Rattle.pq_links.specs.Files.{graph_of, items_in, nodes_of}
use Rattle.pq_links.specs.ImportGraph.{Graph}
use Rattle.pq_links.specs.declared.file_items.FileItems.{FileItems}
use Rattle.pq_links.specs.declared.files.ParsedFile.{ParsedFile}
use Rattle.pq_schema.specs.Compile.{AreResolved}
use Rattle.pq_schema.specs.ScopeContents.{Scope}
use Rattle.pq_schema.specs.SchemaSum.{SchemaMeans}
use Rattle.pq_schema.specs.declared.define.definitions.Definition.{Definition}
use Rattle.pq_schema.specs.declared.queries.resolved.ResolvedReference.{ResolvedReference}
use Rattle.pq_checks.specs.ChecksSum.{ChecksMeans}
use Rattle.pq_checks.specs.Compile.{AreFaults}
use Rattle.pq_checks.specs.declared.errors.fault.Fault.{Fault}
use Rattle.pq_checks.proofs.EachAnswered.{Asks, has_answer}
use Rattle.pq_checks.proofs.ChecksAnswered.{checks_answer as answer_of_checks, diagnostics_answer as answer_of_diagnostics, faults_one as one_faults, linked_answer as answer_of_links, resolved_answer as answer_of_resolved, resolved_one as one_resolved, scope_answer as answer_of_scope}
use Rattle.pq_proto.specs.Compile.{Compiles, IsDefinition, IsDescriptor, definition_by, descriptor_by, has_tree, is_failed, offset_at, read_in, symbols_of}
use Rattle.pq_proto.specs.Definition.{definition_at}
use Rattle.pq_proto.specs.aux.Outputs.{output_level, faults_read, items_read, parsed_read, resolved_read, bare_turn, tree_turn, descriptor_starts, descriptor_advances, descriptor_left, descriptor_falls, symbols_starts, symbols_advances, references_turn, target_turn, definition_advances, definition_left, definition_falls}
use Rattle.pq_proto.specs.declared.key.Place.{Place}
use Rattle.pq_proto.specs.declared.key.ProtoKey.{ProtoKey}
use Rattle.pq_proto.specs.declared.key.ProtoKey.TheVariants as keys
use Rattle.pq_proto.specs.declared.queries.definition.DefinitionPart.{DefinitionPart}
use Rattle.pq_proto.specs.declared.queries.definition.DefinitionPart.TheVariants as definitions
use Rattle.pq_proto.specs.declared.queries.descriptor.DescriptorPart.{DescriptorPart}
use Rattle.pq_proto.specs.declared.queries.descriptor.DescriptorPart.TheVariants as descriptors
use Rattle.pq_proto.specs.declared.rules.ProtoPart.{ProtoPart}
use Rattle.pq_proto.specs.declared.rules.ProtoPart.TheVariants.{Describing, Listing, Locating}
use Rattle.pq_proto.specs.declared.definition.TypeItem.{TypeItem}
use Rattle.pq_proto.specs.declared.value.Location.{Location}
use Rattle.pq_proto.specs.declared.value.ProtoValue.{ProtoValue}
use Rattle.pq_proto.specs.declared.value.ProtoValue.TheVariants as values
use Rattle.pq_proto.proofs.ProtoMeaning.{m, schema, checks, means_compiles, symbols_embed, descriptor_embeds, definition_embeds, Spot, spot_starts}

abbrev A : Type 0
A = Answer ProtoKey ProtoValue

module _ (order : ProtoKey → ProtoKey → Ordering) (loose : Bool) (files : Sources)
    (order_is : (f h : List ℕ) → order (keys.Linked f) (keys.Linked h) ≡ slice_cmp nat_cmp f h) (one_way : Strict order) where
  abbrev i : Instance ProtoKey ProtoPart ProtoValue
  i = m order loose files order_is one_way

  module _ (t : SchemaMeans i loose files (schema order loose files order_is one_way)) (u : ChecksMeans i loose files (schema order loose files order_is one_way) (checks order loose files order_is one_way)) where
    abbrev g : Graph
    g = graph_of loose files

    one : (k : ProtoKey) (a b : A) → Means i k a → Means i k b → a ≡ b
    one = means_one i one_way

    -- ---- what a key compiles to is one

    resolved_one : (f : List ℕ) (rs rs' : List ResolvedReference) → AreResolved loose files f rs → AreResolved loose files f rs' → rs ≡ rs'
    resolved_one = one_resolved i loose files (schema order loose files order_is one_way) (checks order loose files order_is one_way) t

    faults_one : (f : List ℕ) (fs gs : List Fault) → AreFaults loose files f fs → AreFaults loose files f gs → fs ≡ gs
    faults_one = one_faults i loose files (schema order loose files order_is one_way) (checks order loose files order_is one_way) t

    descriptor_one : (f v w : List ℕ) → IsDescriptor loose files f v → IsDescriptor loose files f w → v ≡ w
    descriptor_one f v w p q =
        p.4
        ∙ ap (λ fs. descriptor_by f fs (items_in loose files f) p.1) (faults_one f p.0 q.0 p.2 q.2)
        ∙ ap (λ rs. descriptor_by f q.0 (items_in loose files f) rs) (resolved_one f p.1 q.1 p.3 q.3)
        ∙ sym q.4

    definition_one : (f : List ℕ) (place : Place) (v w : Option Location) → IsDefinition loose files f place v → IsDefinition loose files f place w → v ≡ w
    definition_one f place v w p q =
        p.2 ∙ ap (λ rs. definition_by (read_in loose files) f place rs) (resolved_one f p.0 q.0 p.1 q.1) ∙ sym q.2

    pub compiles_one : (k : ProtoKey) (a b : A) → Compiles loose files k a → Compiles loose files k b → a ≡ b
    compiles_one (keys.Input f) a b p q = p ∙ sym q
    compiles_one (keys.Parse f) a b p q = p ∙ sym q
    compiles_one (keys.Items f) a b p q = p ∙ sym q
    compiles_one (keys.Imports f) a b p q = p ∙ sym q
    compiles_one (keys.Linked f) a b p q = one (keys.Linked f) a b ((t.linked f a).1 p) ((t.linked f b).1 q)
    compiles_one (keys.Defs f) a b p q = p ∙ sym q
    compiles_one (keys.Scope f) a b p q = one (keys.Scope f) a b ((t.scope f a).1 p) ((t.scope f b).1 q)
    compiles_one (keys.Resolved f) a b p q = one (keys.Resolved f) a b ((t.resolved f a).1 p) ((t.resolved f b).1 q)
    compiles_one (keys.Checks f) a b p q = one (keys.Checks f) a b ((u.checks f a).1 p) ((u.checks f b).1 q)
    compiles_one (keys.Diagnostics f) a b p q = one (keys.Diagnostics f) a b ((u.diagnostics f a).1 p) ((u.diagnostics f b).1 q)
    compiles_one (keys.Descriptor f) a b p q = p.1 ∙ ap (λ x. Value (values.Descriptor x)) (descriptor_one f p.0 q.0 p.2 q.2) ∙ sym q.1
    compiles_one (keys.Symbols f) a b p q = p ∙ sym q
    compiles_one (keys.Definition f place) a b p q = p.1 ∙ ap (λ x. Value (values.Definition x)) (definition_one f place p.0 q.0 p.2 q.2) ∙ sym q.1

    -- ---- each key has an answer

    abbrev Answered : ProtoKey → Type 0
    Answered k = (a : A) × Means i k a

    parse_answer : (f : List ℕ) → Answered (keys.Parse f)
    parse_answer f = (_, (t.parse f _).1 refl)

    items_answer : (f : List ℕ) → Answered (keys.Items f)
    items_answer f = (_, (t.items f _).1 refl)

    resolved_answer : (f : List ℕ) → Answered (keys.Resolved f)
    resolved_answer = answer_of_resolved i loose files (schema order loose files order_is one_way) (checks order loose files order_is one_way) t

    checks_answer : (f : List ℕ) → Answered (keys.Checks f)
    checks_answer = answer_of_checks i loose files (schema order loose files order_is one_way) (checks order loose files order_is one_way) t

    symbols_answer : (f : List ℕ) → Answered (keys.Symbols f)
    symbols_answer f =
        let p = parse_answer f in (
          _,
          makes_once i (λ x. keys.Symbols x) (λ (q : Unit {0}). Listing) (λ v. values.Symbols v) output_level symbols_starts (λ q a. symbols_advances a)
              (symbols_embed order loose files order_is one_way t u) (λ x. keys.Parse x) (λ x. tt) (λ x a. symbols_of (parsed_read a)) (λ x. refl) (λ x a. refl) (λ x. omega arith) f p.0 p.1,
        )

    bare_asks : (f : List ℕ) (failed : Bool) → Asks i output_level (λ (q : DescriptorPart). Unit {0}) (bare_turn f failed)
    bare_asks f true = tt
    bare_asks f false = ((omega arith, items_answer f), tt)

    tree_asks : (f : List ℕ) (items : FileItems) (tree : Bool) → Asks i output_level (λ (q : DescriptorPart). Unit {0}) (tree_turn f items tree)
    tree_asks f items true = ((omega arith, resolved_answer f), tt)
    tree_asks f items false = tt

    descriptor_asks : (q : DescriptorPart) (a : A) → Asks i output_level (λ (x : DescriptorPart). Unit {0}) (descriptor_advances q a)
    descriptor_asks (descriptors.ReadChecks f) a = bare_asks f (is_failed (faults_read a))
    descriptor_asks (descriptors.ReadItems f) a = tree_asks f (items_read a) (has_tree (items_read a))
    descriptor_asks (descriptors.ReadResolved f items) a = tt

    descriptor_answer : (f : List ℕ) → Answered (keys.Descriptor f)
    descriptor_answer f =
        has_answer i (λ x. keys.Descriptor x) (λ q. Describing q) (λ v. values.Descriptor v) output_level descriptor_starts descriptor_advances
        (descriptor_embeds order loose files order_is one_way t u) (omega arith) descriptor_left descriptor_falls (λ q. Unit {0})
        (λ x. ((omega arith, checks_answer x), tt)) (λ q a p. descriptor_asks q a) f

    references_asks : (f : List ℕ) (file : ParsedFile) (o : Option ℕ) → Asks i output_level (λ (q : DefinitionPart). Unit {0}) (references_turn f file o)
    references_asks f file (Some offset) = ((omega arith, resolved_answer f), tt)
    references_asks f file None = tt

    target_asks : (x : Option TypeItem) → Asks i output_level (λ (q : DefinitionPart). Unit {0}) (target_turn x)
    target_asks (Some x) = ((omega arith, parse_answer x.file), tt)
    target_asks None = tt

    definition_asks : (q : DefinitionPart) (a : A) → Asks i output_level (λ (x : DefinitionPart). Unit {0}) (definition_advances q a)
    definition_asks (definitions.ReadFile f place) a = references_asks f (parsed_read a) (offset_at (parsed_read a) place)
    definition_asks (definitions.ReadResolved offset file) a = target_asks (definition_at (nodes_of file) offset (resolved_read a))
    definition_asks (definitions.ReadTarget x) a = tt

    definition_answer : (f : List ℕ) (place : Place) → Answered (keys.Definition f place)
    definition_answer f place =
        has_answer i (λ (x : Spot order loose files order_is one_way t u). keys.Definition x.0 x.1) (λ q. Locating q) (λ v. values.Definition v) output_level (spot_starts order loose files order_is one_way t u) definition_advances
        (definition_embeds order loose files order_is one_way t u) (omega arith) definition_left definition_falls (λ q. Unit {0})
        (λ x. ((omega arith, parse_answer x.0), tt)) (λ q a p. definition_asks q a) (f, place)

    pub answered : (k : ProtoKey) → Answered k
    answered (keys.Input f) = (_, (t.input f _).1 refl)
    answered (keys.Parse f) = parse_answer f
    answered (keys.Items f) = items_answer f
    answered (keys.Imports f) = (_, (t.imports f _).1 refl)
    answered (keys.Linked f) = answer_of_links i loose files (schema order loose files order_is one_way) (checks order loose files order_is one_way) t f
    answered (keys.Defs f) = (_, (t.defs f _).1 refl)
    answered (keys.Scope f) = answer_of_scope i loose files (schema order loose files order_is one_way) (checks order loose files order_is one_way) t f
    answered (keys.Resolved f) = resolved_answer f
    answered (keys.Checks f) = checks_answer f
    answered (keys.Diagnostics f) = answer_of_diagnostics i loose files (schema order loose files order_is one_way) (checks order loose files order_is one_way) t f
    answered (keys.Descriptor f) = descriptor_answer f
    answered (keys.Symbols f) = symbols_answer f
    answered (keys.Definition f place) = definition_answer f place

    pub compiles_means : (k : ProtoKey) (a : A) → Compiles loose files k a → Means i k a
    compiles_means k a p =
        let b = answered k in
        subst (Means i k) (compiles_one k b.0 a (means_compiles order loose files order_is one_way t u k b.0 b.1) p) b.1
