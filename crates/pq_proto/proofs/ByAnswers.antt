-- What the queries of this crate ask and end in, by the answers that they read.
use Rattle.std.proofs.Common.{ℕ, Bool, true, false, List, Option, Some, None, refl}
use Rattle.std.specs.Prelude.{codes}
use Rattle.serde_json.specs.Written.{compact_text}
use Rattle.pq_rules.specs.declared.turn.Turn.TheVariants.{Done}
use Rattle.pq_rules.specs.declared.turn.Answer.{Answer}
use Rattle.pq_rules.specs.Embedding.{Runs}
use Rattle.pq_rules.proofs.Asked.{asked, asked_last, ended}
use Rattle.pq_links.specs.Files.{nodes_of}
use Rattle.pq_links.specs.declared.file_items.FileItems.{FileItems}
use Rattle.pq_links.specs.declared.file_items.FileItems.TheVariants as items
use Rattle.pq_links.specs.declared.files.ParsedFile.{ParsedFile}
use Rattle.pq_proto.specs.Answers.{AfterChecks, AfterFile, AfterItems, AfterTarget, AreSymbolsBy, IsDefinitionBy, IsDescriptorBy, Reads, faults_read, items_read, parsed_read, resolved_read}
use Rattle.pq_proto.specs.Compile.{has_tree, is_failed, location_of, offset_at, symbols_of}
use Rattle.pq_proto.specs.Definition.{definition_at}
use Rattle.pq_proto.specs.Descriptor.{descriptor}
use Rattle.pq_proto.specs.aux.Outputs.{bare_turn, definition_advances, definition_starts, descriptor_advances, descriptor_starts, references_turn, symbols_advances, symbols_starts, target_turn, tree_turn}
use Rattle.pq_proto.specs.declared.definition.TypeItem.{TypeItem}
use Rattle.pq_proto.specs.declared.key.Place.{Place}
use Rattle.pq_proto.specs.declared.key.ProtoKey.{ProtoKey}
use Rattle.pq_proto.specs.declared.key.ProtoKey.TheVariants as keys
use Rattle.pq_proto.specs.declared.queries.definition.DefinitionPart.TheVariants as definitions
use Rattle.pq_proto.specs.declared.queries.descriptor.DescriptorPart.TheVariants as descriptors
use Rattle.pq_proto.specs.declared.value.Location.{Location}
use Rattle.pq_proto.specs.declared.value.ProtoValue.{ProtoValue}

abbrev A : Type 0
A = Answer ProtoKey ProtoValue

-- ---- descriptors

after_items : (f : List ℕ) (i : FileItems) (es : Reads) (t : List ℕ) → Runs descriptor_advances (tree_turn f i (has_tree i)) es (Done t) → AfterItems f i es t
after_items f items.Absent es t r = ended descriptor_advances (codes "null") t es r
after_items f (items.Fault nodes) es t r = ended descriptor_advances (codes "null") t es r
after_items f (items.Other nodes) es t r = ended descriptor_advances (codes "null") t es r
after_items f (items.Tree nodes) es t r =
    asked_last descriptor_advances (keys.Resolved f) (descriptors.ReadResolved f (items.Tree nodes)) (λ a. compact_text (descriptor (resolved_read a) f nodes)) es t (λ a. refl) r

after_checks : (f : List ℕ) (failed : Bool) (es : Reads) (t : List ℕ) → Runs descriptor_advances (bare_turn f failed) es (Done t) → AfterChecks f failed es t
after_checks f true es t r = ended descriptor_advances (codes "null") t es r
after_checks f false es t r =
    let o = asked descriptor_advances (keys.Items f) (descriptors.ReadItems f) es t r in
    (o.0, o.1, o.2, after_items f (items_read o.0) o.1 t o.3)

pub descriptor_given : (f : List ℕ) (es : Reads) (t : List ℕ) → Runs descriptor_advances (descriptor_starts f) es (Done t) → IsDescriptorBy f es t
descriptor_given f es t r =
    let o = asked descriptor_advances (keys.Checks f) (descriptors.ReadChecks f) es t r in
    (o.0, o.1, o.2, after_checks f (is_failed (faults_read o.0)) o.1 t o.3)

-- ---- symbols

pub symbols_given : (f : List ℕ) (es : Reads) (t : List ℕ)
    → Runs (λ (q : Unit {0}) (a : A). symbols_advances a) (symbols_starts f) es (Done t) → AreSymbolsBy f es t
symbols_given f es t r =
    asked_last (λ (q : Unit {0}) (a : A). symbols_advances a) (keys.Parse f) tt (λ a. symbols_of (parsed_read a)) es t (λ a. refl) r

-- ---- definitions

after_target : (target : Option TypeItem) (es : Reads) (d : Option Location) → Runs definition_advances (target_turn target) es (Done d) → AfterTarget target es d
after_target None es d r = ended definition_advances None d es r
after_target (Some t) es d r =
    asked_last definition_advances (keys.Parse t.file) (definitions.ReadTarget t) (λ a. location_of t (parsed_read a)) es d (λ a. refl) r

after_file : (f : List ℕ) (file : ParsedFile) (offset : Option ℕ) (es : Reads) (d : Option Location)
    → Runs definition_advances (references_turn f file offset) es (Done d) → AfterFile f file offset es d
after_file f file None es d r = ended definition_advances None d es r
after_file f file (Some offset) es d r =
    let o = asked definition_advances (keys.Resolved f) (definitions.ReadResolved offset file) es d r in
    (o.0, o.1, o.2, after_target (definition_at (nodes_of file) offset (resolved_read o.0)) o.1 d o.3)

pub definition_given : (f : List ℕ) (place : Place) (es : Reads) (d : Option Location)
    → Runs definition_advances (definition_starts f place) es (Done d) → IsDefinitionBy f place es d
definition_given f place es d r =
    let o = asked definition_advances (keys.Parse f) (definitions.ReadFile f place) es d r in
    (o.0, o.1, o.2, after_file f (parsed_read o.0) (offset_at (parsed_read o.0) place) o.1 d o.3)
