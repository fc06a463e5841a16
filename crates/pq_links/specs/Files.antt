-- What a file of the sources is read as, and the graph of the files' imports (proto3 language
-- specification, "Import Statement").
--
-- A file whose text has an error has no tree. Where braces are read (`loose`), it has the statements
-- that its braces show: packages, imports, messages, enums, services and groups. So other files find
-- its definitions while it is typed in, and whatever version of the language it is written in.
--
-- The definition of `parsed`, of the tree or first error of a text, is that of pq_syntax, whose law
-- `each_parse` ties it to the grammar. The laws `each_shown` and `one_shown` there tie `loosely` to the
-- braces. `lines_of` is what an index keeps of the lines of a text, in
-- pq_lex; the contracts of `LineIndex` tie it to positions.
use Rattle.std.specs.Prelude.{ℕ, Bool, true, false, not, ◌&&◌, cond, bytes_eq, List, [], filter_map, map, Option, Some, None}
use Rattle.std.specs.Str.{is_utf8}
use Rattle.pq_inputs.specs.Sources.{Sources, file_in}
use Rattle.pq_lex.specs.aux.LineMarks.{lines_of}
use Rattle.pq_syntax.specs.aux.Loosely.{loosely, has_other_version}
use Rattle.pq_syntax.specs.aux.Parsed.{parsed}
use Rattle.pq_syntax.specs.declared.fault.Parsed.{Parsed}
use Rattle.pq_syntax.specs.declared.fault.Parsed.TheVariants.{Tree, Fault}
use Rattle.pq_syntax.specs.declared.tree.Node.{Node}
use Rattle.pq_syntax.specs.declared.tree.ImportKind.{ImportKind}
use Rattle.pq_syntax.specs.declared.tree.ImportKind.TheVariants.{Plain, Public, Weak}
use Rattle.pq_syntax.specs.declared.tree.Statement.{Statement}
use Rattle.pq_syntax.specs.declared.tree.Statement.TheVariants.{Import as ImportStatement}
use Rattle.pq_links.specs.Bare.{bare}
use Rattle.pq_links.specs.Once.{each_once}
use Rattle.pq_links.specs.ImportGraph.{Graph}
use Rattle.pq_links.specs.declared.file_items.FileItems.{FileItems}
use Rattle.pq_links.specs.declared.file_items.FileItems.TheVariants as items
use Rattle.pq_links.specs.declared.files.ParsedFile.{ParsedFile}
use Rattle.pq_links.specs.declared.files.ParsedFile.TheVariants.{Absent, Present}
use Rattle.pq_links.specs.declared.files.Shown.{Shown}
use Rattle.pq_links.specs.declared.links.Import.{Import}

-- `is_public kind` is whether an import of the kind `kind` is public; a weak import counts as plain
abbrev pub is_public : ImportKind → Bool
is_public Public = true
is_public Plain = false
is_public Weak = false

-- `import_by kind file` is the import of the kind `kind` of the file named `file`, or `None` if the
-- name is not UTF-8
abbrev pub import_by : ImportKind → List ℕ → Option Import
import_by kind file = cond (is_utf8 file) (Some (record { file = file; is_public = is_public kind })) None

-- `import_of s` is the import that the statement `s` is, or `None` for any other statement
abbrev pub import_of : Statement → Option Import
import_of (ImportStatement kind file) = import_by kind file.value
import_of _ = None

-- `same_import a b` is whether `a` and `b` import the same file, and both or neither is public
abbrev pub same_import : Import → Import → Bool
same_import a b = bytes_eq a.file b.file && cond a.is_public b.is_public (not b.is_public)

-- `import_statements nodes` is the imports that the statements `nodes` are, in text order
abbrev pub import_statements : List Node → List Import
import_statements nodes = filter_map (λ n. import_of n.statement) nodes

-- `imports_of nodes` is the imports of a file with the statements `nodes`: each pair of name and
-- publicity once, at its first place in text order
abbrev pub imports_of : List Node → List Import
imports_of nodes = each_once same_import (import_statements nodes)

-- `file_imports i` is the imports of a file that is `i` without spans, or `None` if it is absent
abbrev pub file_imports : FileItems → Option (List Import)
file_imports items.Absent = None
file_imports (items.Fault nodes) = Some (imports_of nodes)
file_imports (items.Other nodes) = Some (imports_of nodes)
file_imports (items.Tree nodes) = Some (imports_of nodes)

-- `nothing_shown` is what is shown of a text whose braces are not read
abbrev pub nothing_shown : Shown
nothing_shown = record { nodes = []; is_other = false }

-- `braces_of loose text` is what is shown of `text`, which has an error: what its braces show, if
-- they are read
abbrev pub braces_of : Bool → List ℕ → Shown
braces_of false text = nothing_shown
braces_of true text = record { nodes = loosely text; is_other = has_other_version text }

-- `shown_of loose text p` is what is shown of `text` with the tree or error `p`: of a tree nothing
-- more
abbrev pub shown_of : Bool → List ℕ → Parsed → Shown
shown_of loose text (Tree nodes) = nothing_shown
shown_of loose text (Fault span code) = braces_of loose text

-- `read_file loose text` is what a file with `text` is read as, `None` for an absent file
abbrev pub read_file : Bool → Option (List ℕ) → ParsedFile
read_file loose None = Absent
read_file loose (Some text) = Present (parsed text) (shown_of loose text (parsed text)) (lines_of text)

-- `read_in loose s f` is what the file `f` of the sources `s` is read as
abbrev pub read_in : Bool → Sources → List ℕ → ParsedFile
read_in loose s f = read_file loose (file_in s f).text

-- `shown_items shown` is what a text with an error, of which `shown` is shown, is without spans
abbrev pub shown_items : Shown → FileItems
shown_items shown = cond shown.is_other (items.Other (map bare shown.nodes)) (items.Fault (map bare shown.nodes))

-- `parsed_items p shown` is what a text with the tree or error `p` is without spans
abbrev pub parsed_items : Parsed → Shown → FileItems
parsed_items (Tree nodes) shown = items.Tree (map bare nodes)
parsed_items (Fault span code) shown = shown_items shown

-- `items_of file` is what a file that is read as `file` is without spans
abbrev pub items_of : ParsedFile → FileItems
items_of Absent = items.Absent
items_of (Present p shown lines) = parsed_items p shown

-- `items_in loose s f` is what the file `f` of the sources `s` is without spans
abbrev pub items_in : Bool → Sources → List ℕ → FileItems
items_in loose s f = items_of (read_in loose s f)

-- `nodes_in i` is the statements without spans of a file that is `i`; an absent file has none
abbrev pub nodes_in : FileItems → List Node
nodes_in items.Absent = []
nodes_in (items.Fault nodes) = nodes
nodes_in (items.Other nodes) = nodes
nodes_in (items.Tree nodes) = nodes

-- `graph_of loose s` is the import graph of the sources `s`
abbrev pub graph_of : Bool → Sources → Graph
graph_of loose s f = file_imports (items_in loose s f)

-- `parsed_nodes p shown` is the statements of a text with the tree or error `p`: with an error, those
-- that are shown
abbrev pub parsed_nodes : Parsed → Shown → List Node
parsed_nodes (Tree nodes) shown = nodes
parsed_nodes (Fault span code) shown = shown.nodes

-- `nodes_of file` is the statements, with their spans, of a file that is read as `file`; an absent
-- file has none
abbrev pub nodes_of : ParsedFile → List Node
nodes_of Absent = []
nodes_of (Present p shown lines) = parsed_nodes p shown
