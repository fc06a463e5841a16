-- What the files of the sources compile to. The definitions speak of sources, trees and the import
-- graph; no query is named here.
--
-- `loose` is whether braces are read. A text with an error then has the statements that they show:
-- its imports and definitions, its symbols, and the places that definitions lead to. It has no
-- descriptor, and its diagnostics are its syntax error.
use Rattle.std.specs.Prelude.{ℕ, ◌≡◌, Bool, true, false, not, ◌&&◌, cond, List, codes, Option, None, option_and_then}
use Rattle.std.specs.List.{list_any}
use Rattle.std.specs.Option.{option_map}
use Rattle.serde_json.specs.Written.{compact_text}
use Rattle.pq_inputs.specs.Sources.{Sources, file_in}
use Rattle.pq_rules.specs.declared.turn.Answer.{Answer}
use Rattle.pq_rules.specs.declared.turn.Answer.TheVariants.{Value}
use Rattle.pq_lex.specs.aux.LineMarks.{place_in, offset_in}
use Rattle.pq_lex.specs.declared.position.Position.{Position}
use Rattle.pq_lex.specs.declared.token.Span.{Span}
pub use Rattle.pq_links.specs.Files.{read_in}
use Rattle.pq_links.specs.Files.{graph_of, items_in, nodes_in, nodes_of}
use Rattle.pq_links.specs.LinkedKeys.{LinkedIs}
use Rattle.pq_links.specs.Place.{place}
use Rattle.pq_links.specs.declared.places.Part.TheVariants as part
use Rattle.pq_links.specs.declared.file_items.FileItems.{FileItems}
use Rattle.pq_links.specs.declared.file_items.FileItems.TheVariants as items
use Rattle.pq_links.specs.declared.files.ParsedFile.{ParsedFile}
use Rattle.pq_links.specs.declared.files.ParsedFile.TheVariants.{Absent, Present}
use Rattle.pq_schema.specs.Compile.{defs_at, IsScope, AreResolved}
use Rattle.pq_schema.specs.ScopeContents.{Scope}
use Rattle.pq_schema.specs.declared.queries.resolved.ResolvedReference.{ResolvedReference}
use Rattle.pq_checks.specs.Codes.{severity}
use Rattle.pq_checks.specs.Compile.{AreFaults}
use Rattle.pq_checks.specs.Diagnostics.{AreDiagnostics}
use Rattle.pq_checks.specs.declared.errors.code.Severity.{Severity}
use Rattle.pq_checks.specs.declared.errors.code.Severity.TheVariants.{Error, Information}
use Rattle.pq_checks.specs.declared.errors.fault.Fault.{Fault}
use Rattle.pq_checks.specs.declared.errors.diagnostic.Diagnosed.{Diagnosed}
use Rattle.pq_proto.specs.Definition.{definition_at}
use Rattle.pq_proto.specs.Descriptor.{descriptor}
use Rattle.pq_proto.specs.Symbols.{symbols}
use Rattle.pq_proto.specs.declared.key.Place.{Place}
use Rattle.pq_proto.specs.declared.key.ProtoKey.{ProtoKey}
use Rattle.pq_proto.specs.declared.key.ProtoKey.TheVariants as keys
use Rattle.pq_proto.specs.declared.definition.TypeItem.{TypeItem}
use Rattle.pq_proto.specs.declared.value.Location.{Location}
use Rattle.pq_proto.specs.declared.value.ProtoValue.{ProtoValue}
use Rattle.pq_proto.specs.declared.value.ProtoValue.TheVariants as values

-- ---- files and positions

-- `position_in file offset` is the position of `offset` in a file that is read as `file`; an absent
-- file has the first position alone
abbrev pub position_in : ParsedFile → ℕ → Position
position_in Absent offset = record { line = 0; character = 0 }
position_in (Present p shown lines) offset = place_in lines offset

-- `offset_at file place` is the offset at `place` in a file that is read as `file`, or `None` if the
-- file has no such line. A place after the line's end is that end.
abbrev pub offset_at : ParsedFile → Place → Option ℕ
offset_at Absent place = None
offset_at (Present p shown lines) place = offset_in lines (record { line = place.line; character = place.character })

-- `place_at file offset` is the position of `offset` as a place
abbrev pub place_at : ParsedFile → ℕ → Place
place_at file offset = record { line = (position_in file offset).line; character = (position_in file offset).character }

-- ---- descriptors

-- `is_severe s` is whether the severity `s` is that of errors
abbrev pub is_severe : Severity → Bool
is_severe Error = true
is_severe Information = false

-- `is_failed fs` is whether one of the errors `fs` is of the severity of errors
abbrev pub is_failed : List Fault → Bool
is_failed fs = list_any (λ (f : Fault). is_severe (severity f.code)) fs

-- `has_tree i` is whether a file that is `i` without spans has a tree
abbrev pub has_tree : FileItems → Bool
has_tree items.Absent = false
has_tree (items.Fault nodes) = false
has_tree (items.Other nodes) = false
has_tree (items.Tree nodes) = true

-- `is_sent fs i` is whether a file that is `i` without spans, with the errors `fs` by the table, has
-- a descriptor: it has a tree, and none of these is of the severity of errors
abbrev pub is_sent : List Fault → FileItems → Bool
is_sent fs i = has_tree i && not (is_failed fs)

-- `descriptor_by f fs i references` is the descriptor of the file `f` as a text, `null` where it has
-- none. `fs` is its errors by the table, `i` what it is without spans, and `references` its resolved
-- references.
abbrev pub descriptor_by : List ℕ → List Fault → FileItems → List ResolvedReference → List ℕ
descriptor_by f fs i references = cond (is_sent fs i) (compact_text (descriptor references f (nodes_in i))) (codes "null")

-- `IsDescriptor loose files f t` is that `t` is the descriptor of the file `f` as a text
abbrev pub IsDescriptor : Bool → Sources → List ℕ → List ℕ → Type 0
IsDescriptor loose files f t =
    (fs : List Fault) × (references : List ResolvedReference)
    × AreFaults loose files f fs × AreResolved loose files f references × (t ≡ descriptor_by f fs (items_in loose files f) references)

-- ---- symbols

-- `symbols_of file` is the list of the symbols of a file that is read as `file`, as a text
abbrev pub symbols_of : ParsedFile → List ℕ
symbols_of file = compact_text (symbols (position_in file) (nodes_of file))

-- ---- definitions

-- `location_of t file` is the location of the name of the type item `t`, whose file is read as
-- `file`
abbrev pub location_of : TypeItem → ParsedFile → Option Location
location_of t file =
    option_map (λ (s : Span). record { file = t.file; start = place_at file s.start; end = place_at file s.end })
    (place (nodes_of file) t.item part.Name)

-- `type_at file place references` is the type that is referred to at `place` in a file that is read
-- as `file` and has the resolved references `references`
abbrev pub type_at : ParsedFile → Place → List ResolvedReference → Option TypeItem
type_at file place references = option_and_then (λ (o : ℕ). definition_at (nodes_of file) o references) (offset_at file place)

-- `definition_by read f place references` is the definition of what is at `place` in the file `f`
-- with the resolved references `references`, where `read` gives what a file is read as
abbrev pub definition_by : (List ℕ → ParsedFile) → List ℕ → Place → List ResolvedReference → Option Location
definition_by read f place references = option_and_then (λ (t : TypeItem). location_of t (read t.file)) (type_at (read f) place references)

-- `IsDefinition loose files f place d` is that `d` is the definition of what is at `place` in the file `f`
abbrev pub IsDefinition : Bool → Sources → List ℕ → Place → Option Location → Type 0
IsDefinition loose files f place d =
    (references : List ResolvedReference) × AreResolved loose files f references × (d ≡ definition_by (read_in loose files) f place references)

-- ---- all keys

-- `Compiles loose files key a` is that the key `key` compiles to the answer `a`. The links of a bad file
-- are the cycle of the ring of imports into which it leads.
abbrev pub Compiles : Bool → Sources → ProtoKey → Answer ProtoKey ProtoValue → Type 0
Compiles loose files (keys.Input f) a = a ≡ Value (values.Source (file_in files f).text)
Compiles loose files (keys.Parse f) a = a ≡ Value (values.Parse (read_in loose files f))
Compiles loose files (keys.Items f) a = a ≡ Value (values.Items (items_in loose files f))
Compiles loose files (keys.Imports f) a = a ≡ Value (values.Imports (graph_of loose files f))
Compiles loose files (keys.Linked f) a = LinkedIs (graph_of loose files) (λ n. keys.Linked n) (λ l. values.Linked l) f a
Compiles loose files (keys.Defs f) a = a ≡ Value (values.Defs (defs_at loose files f))
Compiles loose files (keys.Scope f) a = (s : Scope) × (a ≡ Value (values.Scope s)) × IsScope loose files f s
Compiles loose files (keys.Resolved f) a = (rs : List ResolvedReference) × (a ≡ Value (values.Resolved rs)) × AreResolved loose files f rs
Compiles loose files (keys.Checks f) a = (fs : List Fault) × (a ≡ Value (values.Checks fs)) × AreFaults loose files f fs
Compiles loose files (keys.Diagnostics f) a = (d : Diagnosed) × (a ≡ Value (values.Diagnostics d)) × AreDiagnostics loose files f d
Compiles loose files (keys.Descriptor f) a = (t : List ℕ) × (a ≡ Value (values.Descriptor t)) × IsDescriptor loose files f t
Compiles loose files (keys.Symbols f) a = a ≡ Value (values.Symbols (symbols_of (read_in loose files f)))
Compiles loose files (keys.Definition f place) a = (d : Option Location) × (a ≡ Value (values.Definition d)) × IsDefinition loose files f place d
