-- What the queries of descriptors, symbols and definitions at a place ask and end in, by the answers
-- that they read.
--
-- `es` is the questions of a run in order, each with its answer.
use Rattle.std.specs.Prelude.{ℕ, ◌≡◌, Bool, true, false, codes, List, [], ◌∷◌, Option, Some, None}
use Rattle.serde_json.specs.Written.{compact_text}
use Rattle.pq_rules.specs.declared.turn.Answer.{Answer}
use Rattle.pq_rules.specs.declared.turn.Answer.TheVariants.{Value}
use Rattle.pq_links.specs.Files.{nodes_of}
use Rattle.pq_links.specs.declared.file_items.FileItems.{FileItems}
use Rattle.pq_links.specs.declared.file_items.FileItems.TheVariants as items
use Rattle.pq_links.specs.declared.files.ParsedFile.{ParsedFile}
use Rattle.pq_links.specs.declared.files.ParsedFile.TheVariants.{Absent}
use Rattle.pq_schema.specs.declared.queries.resolved.ResolvedReference.{ResolvedReference}
use Rattle.pq_checks.specs.declared.errors.fault.Fault.{Fault}
use Rattle.pq_proto.specs.Compile.{is_failed, location_of, offset_at, symbols_of}
use Rattle.pq_proto.specs.Definition.{definition_at}
use Rattle.pq_proto.specs.Descriptor.{descriptor}
use Rattle.pq_proto.specs.declared.definition.TypeItem.{TypeItem}
use Rattle.pq_proto.specs.declared.key.Place.{Place}
use Rattle.pq_proto.specs.declared.key.ProtoKey.{ProtoKey}
use Rattle.pq_proto.specs.declared.key.ProtoKey.TheVariants as keys
use Rattle.pq_proto.specs.declared.value.Location.{Location}
use Rattle.pq_proto.specs.declared.value.ProtoValue.{ProtoValue}
use Rattle.pq_proto.specs.declared.value.ProtoValue.TheVariants as values

-- ---- what is read of an answer; one of another kind reads as that of an absent file

-- `parsed_read a` is what the answer `a` says that a file is read as
abbrev pub parsed_read : Answer ProtoKey ProtoValue → ParsedFile
parsed_read (Value (values.Parse file)) = file
parsed_read _ = Absent

-- `items_read a` is what the answer `a` says that a file is read as, without spans
abbrev pub items_read : Answer ProtoKey ProtoValue → FileItems
items_read (Value (values.Items i)) = i
items_read _ = items.Absent

-- `resolved_read a` is the resolved references that the answer `a` holds
abbrev pub resolved_read : Answer ProtoKey ProtoValue → List ResolvedReference
resolved_read (Value (values.Resolved references)) = references
resolved_read _ = []

-- `faults_read a` is the errors of a file that the answer `a` holds
abbrev pub faults_read : Answer ProtoKey ProtoValue → List Fault
faults_read (Value (values.Checks faults)) = faults
faults_read _ = []

-- `Reads` is the type of such questions
abbrev pub Reads : Type 0
Reads = List (ProtoKey × Answer ProtoKey ProtoValue)

-- ---- descriptors

-- `AfterItems f i es t` is that a file `f` that is `i` without spans, none of the errors of which is
-- severe, asks its resolved references if it has a tree, and that `t` is its descriptor by these, or
-- `null` if it has none
abbrev pub AfterItems : List ℕ → FileItems → Reads → List ℕ → Type 0
AfterItems f items.Absent es t = (es ≡ []) × (t ≡ codes "null")
AfterItems f (items.Fault nodes) es t = (es ≡ []) × (t ≡ codes "null")
AfterItems f (items.Other nodes) es t = (es ≡ []) × (t ≡ codes "null")
AfterItems f (items.Tree nodes) es t =
    (a : Answer ProtoKey ProtoValue) × (es ≡ (keys.Resolved f, a) ∷ []) × (t ≡ compact_text (descriptor (resolved_read a) f nodes))

-- `AfterChecks f failed es t` is that a file `f` of which an error is severe, if it `failed`, asks
-- nothing more and that `t` is `null`; and that else it asks for its tree without spans
abbrev pub AfterChecks : List ℕ → Bool → Reads → List ℕ → Type 0
AfterChecks f true es t = (es ≡ []) × (t ≡ codes "null")
AfterChecks f false es t = (a : Answer ProtoKey ProtoValue) × (rest : Reads) × (es ≡ (keys.Items f, a) ∷ rest) × AfterItems f (items_read a) rest t

-- `IsDescriptorBy f es t` is that the first question is for the errors of the file `f` by the table,
-- that the others are as needed for its tree without spans and its resolved references, and that `t`
-- is its descriptor by their answers
abbrev pub IsDescriptorBy : List ℕ → Reads → List ℕ → Type 0
IsDescriptorBy f es t =
    (a : Answer ProtoKey ProtoValue) × (rest : Reads) × (es ≡ (keys.Checks f, a) ∷ rest) × AfterChecks f (is_failed (faults_read a)) rest t

-- ---- symbols

-- `AreSymbolsBy f es t` is that the one question is for what the file `f` is read as, and that `t` is
-- the symbols of that
abbrev pub AreSymbolsBy : List ℕ → Reads → List ℕ → Type 0
AreSymbolsBy f es t = (a : Answer ProtoKey ProtoValue) × (es ≡ (keys.Parse f, a) ∷ []) × (t ≡ symbols_of (parsed_read a))

-- ---- definitions

-- `AfterTarget target es d` is that what the file of the type `target` is read as is asked, and that
-- `d` is its location there; without a type nothing is asked, and there is no location
abbrev pub AfterTarget : Option TypeItem → Reads → Option Location → Type 0
AfterTarget None es d = (es ≡ []) × (d ≡ None)
AfterTarget (Some t) es d = (a : Answer ProtoKey ProtoValue) × (es ≡ (keys.Parse t.file, a) ∷ []) × (d ≡ location_of t (parsed_read a))

-- `AfterFile f file offset es d` is that the resolved references of the file `f`, which is read as
-- `file`, are asked if it has the line of a place with the `offset`, and then the file of the type
-- that is referred to there
abbrev pub AfterFile : List ℕ → ParsedFile → Option ℕ → Reads → Option Location → Type 0
AfterFile f file None es d = (es ≡ []) × (d ≡ None)
AfterFile f file (Some offset) es d =
    (a : Answer ProtoKey ProtoValue) × (rest : Reads) × (es ≡ (keys.Resolved f, a) ∷ rest)
    × AfterTarget (definition_at (nodes_of file) offset (resolved_read a)) rest d

-- `IsDefinitionBy f place es d` is that the first question is for what the file `f` is read as, that
-- the others are as needed for its resolved references and for the file of the type, and that `d` is
-- the definition of what is at `place` by their answers
abbrev pub IsDefinitionBy : List ℕ → Place → Reads → Option Location → Type 0
IsDefinitionBy f place es d =
    (a : Answer ProtoKey ProtoValue) × (rest : Reads) × (es ≡ (keys.Parse f, a) ∷ rest)
    × AfterFile f (parsed_read a) (offset_at (parsed_read a) place) rest d
