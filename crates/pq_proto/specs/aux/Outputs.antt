-- Auxiliary: the turns of the queries of descriptors, symbols and definitions, as functions of what
-- is read of an answer, and that each further question lowers what is left. A law of a trait's impl
-- may cite specs/ alone. The laws of the rule set tie the turns to `specs/Compile`.
use Rattle.std.proofs.Common.{◌≡◌, ℕ, Bool, true, false, List, [], sym, subst, inl, arith}
use Rattle.std.specs.Prelude.{codes, Option, Some, None}
use Rattle.serde_json.specs.Written.{compact_text}
use Rattle.pq_rules.specs.declared.turn.Turn.{Turn}
use Rattle.pq_rules.specs.declared.turn.Turn.TheVariants.{Ask, Done}
use Rattle.pq_rules.specs.declared.turn.Answer.{Answer}
use Rattle.pq_rules.specs.Turns.{IsLower}
use Rattle.pq_links.specs.Files.{nodes_in, nodes_of}
use Rattle.pq_links.specs.declared.file_items.FileItems.{FileItems}
use Rattle.pq_links.specs.declared.files.ParsedFile.{ParsedFile}
pub use Rattle.pq_proto.specs.Answers.{faults_read, items_read, parsed_read, resolved_read}
use Rattle.pq_proto.specs.Compile.{has_tree, is_failed, symbols_of, offset_at, location_of}
use Rattle.pq_proto.specs.Definition.{definition_at}
use Rattle.pq_proto.specs.Descriptor.{descriptor}
use Rattle.pq_proto.specs.declared.key.Place.{Place}
use Rattle.pq_proto.specs.declared.key.ProtoKey.{ProtoKey}
use Rattle.pq_proto.specs.declared.key.ProtoKey.TheVariants as keys
use Rattle.pq_proto.specs.declared.queries.definition.DefinitionPart.{DefinitionPart}
use Rattle.pq_proto.specs.declared.queries.definition.DefinitionPart.TheVariants as definitions
use Rattle.pq_proto.specs.declared.queries.descriptor.DescriptorPart.{DescriptorPart}
use Rattle.pq_proto.specs.declared.queries.descriptor.DescriptorPart.TheVariants as descriptors
use Rattle.pq_proto.specs.declared.definition.TypeItem.{TypeItem}
use Rattle.pq_proto.specs.declared.value.Location.{Location}
use Rattle.pq_proto.specs.declared.value.ProtoValue.{ProtoValue}

-- `output_level` is the level of the keys of the three queries
abbrev pub output_level : ℕ
output_level = 10

-- ---- descriptors

-- `descriptor_starts f` is the first turn of the descriptor of the file `f`: it asks for the errors
-- by the table
abbrev pub descriptor_starts : List ℕ → Turn ProtoKey DescriptorPart (List ℕ)
descriptor_starts f = Ask (keys.Checks f) (descriptors.ReadChecks f)

-- `bare_turn f failed` is the turn after the errors of the file `f`: if none is of the severity of
-- errors, it asks for the tree without spans
abbrev pub bare_turn : List ℕ → Bool → Turn ProtoKey DescriptorPart (List ℕ)
bare_turn f true = Done (codes "null")
bare_turn f false = Ask (keys.Items f) (descriptors.ReadItems f)

-- `tree_turn f i tree` is the turn after the answer that the file `f` is `i` without spans, which is
-- a `tree` or not: it asks for the resolved references of a tree
abbrev pub tree_turn : List ℕ → FileItems → Bool → Turn ProtoKey DescriptorPart (List ℕ)
tree_turn f i true = Ask (keys.Resolved f) (descriptors.ReadResolved f i)
tree_turn f i false = Done (codes "null")

-- `descriptor_advances part a` is the turn after the answer `a` at `part`
abbrev pub descriptor_advances : DescriptorPart → Answer ProtoKey ProtoValue → Turn ProtoKey DescriptorPart (List ℕ)
descriptor_advances (descriptors.ReadChecks f) a = bare_turn f (is_failed (faults_read a))
descriptor_advances (descriptors.ReadItems f) a = tree_turn f (items_read a) (has_tree (items_read a))
descriptor_advances (descriptors.ReadResolved f i) a = Done (compact_text (descriptor (resolved_read a) f (nodes_in i)))

-- `descriptor_left part` is what is left to ask at `part`
abbrev pub descriptor_left : DescriptorPart → ℕ × ℕ
descriptor_left (descriptors.ReadChecks f) = (2, 0)
descriptor_left (descriptors.ReadItems f) = (1, 0)
descriptor_left (descriptors.ReadResolved f i) = (0, 0)

-- ---- symbols

-- `symbols_starts f` is the first turn of the symbols of the file `f`: it asks what that is read as
abbrev pub symbols_starts : List ℕ → Turn ProtoKey (Unit {0}) (List ℕ)
symbols_starts f = Ask (keys.Parse f) tt

-- `symbols_advances a` is the turn after the answer `a`: it is done with the symbols
abbrev pub symbols_advances : Answer ProtoKey ProtoValue → Turn ProtoKey (Unit {0}) (List ℕ)
symbols_advances a = Done (symbols_of (parsed_read a))

-- ---- definitions

-- `definition_starts f place` is the first turn of the definition of what is at `place` in the file
-- `f`: it asks what that is read as
abbrev pub definition_starts : List ℕ → Place → Turn ProtoKey DefinitionPart (Option Location)
definition_starts f place = Ask (keys.Parse f) (definitions.ReadFile f place)

-- `references_turn f file offset` is the turn after the file `f` was read as `file`, where `offset`
-- is that of the place: it asks for the resolved references
abbrev pub references_turn : List ℕ → ParsedFile → Option ℕ → Turn ProtoKey DefinitionPart (Option Location)
references_turn f file (Some offset) = Ask (keys.Resolved f) (definitions.ReadResolved offset file)
references_turn f file None = Done None

-- `target_turn target` is the turn after the type `target` was found: it asks what its file is read
-- as
abbrev pub target_turn : Option TypeItem → Turn ProtoKey DefinitionPart (Option Location)
target_turn (Some t) = Ask (keys.Parse t.file) (definitions.ReadTarget t)
target_turn None = Done None

-- `definition_advances part a` is the turn after the answer `a` at `part`
abbrev pub definition_advances : DefinitionPart → Answer ProtoKey ProtoValue → Turn ProtoKey DefinitionPart (Option Location)
definition_advances (definitions.ReadFile f place) a = references_turn f (parsed_read a) (offset_at (parsed_read a) place)
definition_advances (definitions.ReadResolved offset file) a = target_turn (definition_at (nodes_of file) offset (resolved_read a))
definition_advances (definitions.ReadTarget t) a = Done (location_of t (parsed_read a))

-- `definition_left part` is what is left to ask at `part`
abbrev pub definition_left : DefinitionPart → ℕ × ℕ
definition_left (definitions.ReadFile f place) = (2, 0)
definition_left (definitions.ReadResolved offset file) = (1, 0)
definition_left (definitions.ReadTarget t) = (0, 0)

-- ---- each further question lowers what is left

bare_falls : (f : List ℕ) (failed : Bool) (q : ProtoKey) (r : DescriptorPart) → bare_turn f failed ≡ Ask q r → IsLower (descriptor_left r) (2, 0)
bare_falls f true q r e = cc
bare_falls f false q r e =
    let part : r ≡ descriptors.ReadItems f = cc in
    subst (λ (x : DescriptorPart). IsLower (descriptor_left x) (2, 0)) (sym part) (inl (omega arith))

tree_falls : (f : List ℕ) (i : FileItems) (tree : Bool) (q : ProtoKey) (r : DescriptorPart) → tree_turn f i tree ≡ Ask q r → IsLower (descriptor_left r) (1, 0)
tree_falls f i true q r e =
    let part : r ≡ descriptors.ReadResolved f i = cc in
    subst (λ (x : DescriptorPart). IsLower (descriptor_left x) (1, 0)) (sym part) (inl (omega arith))
tree_falls f i false q r e = cc

pub descriptor_falls : (p : DescriptorPart) (a : Answer ProtoKey ProtoValue) (q : ProtoKey) (r : DescriptorPart)
    → descriptor_advances p a ≡ Ask q r → IsLower (descriptor_left r) (descriptor_left p)
descriptor_falls (descriptors.ReadChecks f) a q r e = bare_falls f (is_failed (faults_read a)) q r e
descriptor_falls (descriptors.ReadItems f) a q r e = tree_falls f (items_read a) (has_tree (items_read a)) q r e
descriptor_falls (descriptors.ReadResolved f i) a q r e = cc

pub symbols_falls : (a : Answer ProtoKey ProtoValue) (q : ProtoKey) (r : Unit {0}) → symbols_advances a ≡ Ask q r → IsLower (0, 0) (0, 0)
symbols_falls a q r e = cc

references_falls : (f : List ℕ) (file : ParsedFile) (offset : Option ℕ) (q : ProtoKey) (r : DefinitionPart)
    → references_turn f file offset ≡ Ask q r → IsLower (definition_left r) (2, 0)
references_falls f file (Some offset) q r e =
    let part : r ≡ definitions.ReadResolved offset file = cc in
    subst (λ (x : DefinitionPart). IsLower (definition_left x) (2, 0)) (sym part) (inl (omega arith))
references_falls f file None q r e = cc

target_falls : (target : Option TypeItem) (q : ProtoKey) (r : DefinitionPart) → target_turn target ≡ Ask q r → IsLower (definition_left r) (1, 0)
target_falls (Some t) q r e =
    let part : r ≡ definitions.ReadTarget t = cc in
    subst (λ (x : DefinitionPart). IsLower (definition_left x) (1, 0)) (sym part) (inl (omega arith))
target_falls None q r e = cc

pub definition_falls : (p : DefinitionPart) (a : Answer ProtoKey ProtoValue) (q : ProtoKey) (r : DefinitionPart)
    → definition_advances p a ≡ Ask q r → IsLower (definition_left r) (definition_left p)
definition_falls (definitions.ReadFile f place) a q r e = references_falls f (parsed_read a) (offset_at (parsed_read a) place) q r e
definition_falls (definitions.ReadResolved offset file) a q r e = target_falls (definition_at (nodes_of file) offset (resolved_read a)) q r e
definition_falls (definitions.ReadTarget t) a q r e = cc
