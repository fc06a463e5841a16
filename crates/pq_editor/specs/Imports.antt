-- The imports of a text, with their places (proto3 language specification, "Import Statement").
--
-- The definition of `parsed`, of the tree or first error of a text, is that of pq_syntax, whose law
-- `each_parse` ties it to the grammar. The laws `each_shown` and `one_shown` there tie `loosely` to the
-- braces of a text. `place_in` and `lines_of` are those of pq_lex, whose law `positions_of_lines` ties
-- them to `position_of`.
use Rattle.std.specs.Prelude.{ℕ, cond, List, filter_map, map, Option, Some, None}
use Rattle.std.specs.Str.{is_utf8}
use Rattle.pq_lex.specs.aux.LineMarks.{LineMark, lines_of, place_in}
use Rattle.pq_syntax.specs.aux.Loosely.{loosely}
use Rattle.pq_syntax.specs.aux.Parsed.{parsed}
use Rattle.pq_syntax.specs.declared.fault.Parsed.{Parsed}
use Rattle.pq_syntax.specs.declared.fault.Parsed.TheVariants.{Tree, Fault}
use Rattle.pq_syntax.specs.declared.parts.Strings.{Strings}
use Rattle.pq_syntax.specs.declared.tree.Node.{Node}
use Rattle.pq_syntax.specs.declared.tree.Statement.{Statement}
use Rattle.pq_syntax.specs.declared.tree.Statement.TheVariants.{Import as ImportStatement}
use Rattle.pq_editor.specs.declared.imports.Import.{Import}

-- `nodes_by text p` is the statements of `text` with the tree or error `p`
abbrev pub nodes_by : List ℕ → Parsed → List Node
nodes_by text (Tree nodes) = nodes
nodes_by text (Fault span code) = loosely text

-- `nodes_of text` is the statements of `text`: those of its tree or, if it has an error, those that
-- its braces show
abbrev pub nodes_of : List ℕ → List Node
nodes_of text = nodes_by text (parsed text)

-- `if_utf8 file` is the strings `file` of an import, or `None` if its name is not UTF-8
abbrev pub if_utf8 : Strings → Option Strings
if_utf8 file = cond (is_utf8 file.value) (Some file) None

-- `strings_of s` is the strings of the import that the statement `s` is. It is `None` for any other
-- statement, and where the name is not UTF-8
abbrev pub strings_of : Statement → Option Strings
strings_of (ImportStatement kind file) = if_utf8 file
strings_of _ = None

-- `strings_in nodes` is the strings of the imports among the statements `nodes`, in text order, each
-- as often as it is written
abbrev pub strings_in : List Node → List Strings
strings_in nodes = filter_map (λ n. strings_of n.statement) nodes

-- `placed lines file` is the import of the strings `file` in a text with these `lines`: its name, and
-- the positions from the first string to the last
abbrev pub placed : List LineMark → Strings → Import
placed lines file = record { name = file.value; start = place_in lines file.span.start; end = place_in lines file.span.end }

-- `imports_of text` is the imports of `text`, in text order
abbrev pub imports_of : List ℕ → List Import
imports_of text = map (placed (lines_of text)) (strings_in (nodes_of text))

-- `imported_names text` is the names of the imports of `text`, in text order
abbrev pub imported_names : List ℕ → List (List ℕ)
imported_names text = map (λ file. file.value) (strings_in (nodes_of text))
