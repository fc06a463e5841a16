-- Auxiliary: the rule set of a schema, put together from its queries. The law `schema_values` says
-- what its keys mean.
use Rattle.std.specs.Prelude.{ℕ, false, List, [], ◌∷◌, Option, Some, None}
use Rattle.pq_inputs.specs.Sources.{Sources}
use Rattle.pq_rules.specs.aux.Codes.{text_code}
use Rattle.pq_rules.specs.declared.turn.Turn.{Turn}
use Rattle.pq_rules.specs.declared.turn.Turn.TheVariants.{Done}
use Rattle.pq_rules.specs.declared.turn.Answer.{Answer}
use Rattle.pq_rules.specs.declared.turn.Answer.TheVariants.{Value}
use Rattle.pq_rules.specs.Turns.{Machine}
use Rattle.pq_rules.specs.Embedding.{embedded}
use Rattle.pq_rules.specs.aux.KeysBy.{keys_by}
use Rattle.pq_links.specs.Visibility.{no_links}
use Rattle.pq_links.specs.Files.{nodes_in}
use Rattle.pq_links.specs.aux.Queries.{parse_level, items_level, imports_level, linked_level, parse_starts, parse_advances, items_starts, items_advances, imports_starts, imports_advances, linked_starts, linked_advances, linked_left}
use Rattle.pq_links.specs.aux.Mentioned.{all_mentioned}
use Rattle.pq_links.specs.declared.file_items.FileItems.{FileItems}
use Rattle.pq_links.specs.declared.file_items.FileItems.TheVariants.{Absent as NoItems}
use Rattle.pq_links.specs.declared.files.ParsedFile.{ParsedFile}
use Rattle.pq_links.specs.declared.files.ParsedFile.TheVariants.{Absent}
use Rattle.pq_links.specs.declared.linked.Linking.{Linking}
use Rattle.pq_links.specs.declared.links.Import.{Import}
use Rattle.pq_links.specs.declared.links.Links.{Links}
use Rattle.pq_schema.specs.Contents.{Defs as DefsContents}
use Rattle.pq_schema.specs.ScopeContents.{Scope as ScopeContents}
use Rattle.pq_schema.specs.Missing.{no_defs, no_scope}
use Rattle.pq_schema.specs.aux.Queries.{defs_level, scope_level, resolved_level, defs_starts, defs_advances, scope_starts, scope_advances, scope_left, resolved_starts, resolved_advances, resolved_left}
use Rattle.pq_schema.specs.declared.queries.resolved.ResolvedReference.{ResolvedReference}
use Rattle.pq_schema.specs.declared.queries.resolved.ResolvedPart.{ResolvedPart}
use Rattle.pq_schema.specs.declared.queries.rules.SchemaKey.{SchemaKey}
use Rattle.pq_schema.specs.declared.queries.rules.SchemaKey.TheVariants.{Input, Parse, Items, Imports, Linked, Defs, Scope, Resolved}
use Rattle.pq_schema.specs.declared.queries.rules.SchemaPart.{SchemaPart}
use Rattle.pq_schema.specs.declared.queries.rules.SchemaPart.TheVariants.{Parsing, Itemizing, Importing, LinkingFiles, Defining, Scoping, Resolving}
use Rattle.pq_schema.specs.declared.queries.rules.SchemaValue.{SchemaValue}
use Rattle.pq_schema.specs.declared.queries.rules.SchemaValue.TheVariants as values
use Rattle.pq_schema.specs.declared.queries.scopes.ScopePart.{ScopePart}

-- `text_read`, `parsed_read`, `items_read`, `imports_read`, `links_read`, `defs_read` and
-- `scope_read` are what is read of an answer
abbrev pub text_read : Answer SchemaKey SchemaValue → Option (List ℕ)
text_read (Value (values.Source text)) = text
text_read _ = None

abbrev pub parsed_read : Answer SchemaKey SchemaValue → ParsedFile
parsed_read (Value (values.Parse file)) = file
parsed_read _ = Absent

abbrev pub items_read : Answer SchemaKey SchemaValue → FileItems
items_read (Value (values.Items items)) = items
items_read _ = NoItems

abbrev pub imports_read : Answer SchemaKey SchemaValue → Option (List Import)
imports_read (Value (values.Imports is)) = is
imports_read _ = None

abbrev pub links_read : Answer SchemaKey SchemaValue → Links
links_read (Value (values.Linked links)) = links
links_read _ = no_links

abbrev pub defs_read : Answer SchemaKey SchemaValue → DefsContents
defs_read (Value (values.Defs defs)) = defs
defs_read _ = no_defs

abbrev pub scope_read : Answer SchemaKey SchemaValue → ScopeContents
scope_read (Value (values.Scope scope)) = scope
scope_read _ = no_scope

-- `schema_level k` is the level of the key `k`
abbrev pub schema_level : SchemaKey → ℕ
schema_level (Input f) = 0
schema_level (Parse f) = parse_level
schema_level (Items f) = items_level
schema_level (Imports f) = imports_level
schema_level (Linked f) = linked_level
schema_level (Defs f) = defs_level
schema_level (Scope f) = scope_level
schema_level (Resolved f) = resolved_level

-- `schema_file k` is the file of the input key `k`
abbrev pub schema_file : SchemaKey → Option (List ℕ)
schema_file (Input f) = Some f
schema_file (Parse f) = None
schema_file (Items f) = None
schema_file (Imports f) = None
schema_file (Linked f) = None
schema_file (Defs f) = None
schema_file (Scope f) = None
schema_file (Resolved f) = None

-- `parse_turn t` is the turn `t` of the query of parses as a turn of the rule set; the next six
-- are those of the other queries
abbrev pub parse_turn : Turn SchemaKey (Unit {0}) ParsedFile → Turn SchemaKey SchemaPart SchemaValue
parse_turn = embedded (λ q. Parsing) (λ v. values.Parse v)

abbrev pub items_turn : Turn SchemaKey (Unit {0}) FileItems → Turn SchemaKey SchemaPart SchemaValue
items_turn = embedded (λ q. Itemizing) (λ v. values.Items v)

abbrev pub imports_turn : Turn SchemaKey (Unit {0}) (Option (List Import)) → Turn SchemaKey SchemaPart SchemaValue
imports_turn = embedded (λ q. Importing) (λ v. values.Imports v)

abbrev pub linked_turn : Turn SchemaKey Linking Links → Turn SchemaKey SchemaPart SchemaValue
linked_turn = embedded (λ q. LinkingFiles q) (λ v. values.Linked v)

abbrev pub defs_turn : Turn SchemaKey (Unit {0}) DefsContents → Turn SchemaKey SchemaPart SchemaValue
defs_turn = embedded (λ q. Defining) (λ v. values.Defs v)

abbrev pub scope_turn : Turn SchemaKey ScopePart ScopeContents → Turn SchemaKey SchemaPart SchemaValue
scope_turn = embedded (λ q. Scoping q) (λ v. values.Scope v)

abbrev pub resolved_turn : Turn SchemaKey ResolvedPart (List ResolvedReference) → Turn SchemaKey SchemaPart SchemaValue
resolved_turn = embedded (λ q. Resolving q) (λ v. values.Resolved v)

-- `schema_start k` is the first turn of the key `k`; an input has no rule, so its turn is not asked
-- for
abbrev pub schema_start : SchemaKey → Turn SchemaKey SchemaPart SchemaValue
schema_start (Input f) = Done (values.Source None)
schema_start (Parse f) = parse_turn (parse_starts (λ n. Input n) f)
schema_start (Items f) = items_turn (items_starts (λ n. Parse n) f)
schema_start (Imports f) = imports_turn (imports_starts (λ n. Items n) f)
schema_start (Linked f) = linked_turn (linked_starts (λ n. Imports n) f)
schema_start (Defs f) = defs_turn (defs_starts (λ n. Items n) f)
schema_start (Scope f) = scope_turn (scope_starts (λ n. Linked n) f)
schema_start (Resolved f) = resolved_turn (resolved_starts (λ n. Scope n) f)

-- `schema_advance part a` is the turn that follows `part` by the answer `a`
abbrev pub schema_advance : SchemaPart → Answer SchemaKey SchemaValue → Turn SchemaKey SchemaPart SchemaValue
schema_advance Parsing a = parse_turn (parse_advances false (text_read a))
schema_advance Itemizing a = items_turn (items_advances (parsed_read a))
schema_advance Importing a = imports_turn (imports_advances (items_read a))
schema_advance (LinkingFiles q) a = linked_turn (linked_advances (λ n. Linked n) (imports_read a) (links_read a) q)
schema_advance Defining a = defs_turn (defs_advances (nodes_in (items_read a)))
schema_advance (Scoping q) a = scope_turn (scope_advances (λ n. Defs n) (links_read a) (defs_read a) q)
schema_advance (Resolving q) a = resolved_turn (resolved_advances (λ n. Items n) (scope_read a) (nodes_in (items_read a)) q)

-- `schema_left part` is what is left to ask at `part`
abbrev pub schema_left : SchemaPart → ℕ × ℕ
schema_left Parsing = (0, 0)
schema_left Itemizing = (0, 0)
schema_left Importing = (0, 0)
schema_left (LinkingFiles q) = linked_left q
schema_left Defining = (0, 0)
schema_left (Scoping q) = scope_left q
schema_left (Resolving q) = resolved_left q

-- `schema_rules` is the rule set
abbrev pub schema_rules : Machine SchemaKey SchemaPart SchemaValue
schema_rules = record {
  level = schema_level;
  file = schema_file;
  text = λ text. values.Source text;
  start = schema_start;
  advance = schema_advance;
  left = schema_left;
}

-- `own_name k` is the file of the key `k`
abbrev pub own_name : SchemaKey → List ℕ
own_name (Input f) = f
own_name (Parse f) = f
own_name (Items f) = f
own_name (Imports f) = f
own_name (Linked f) = f
own_name (Defs f) = f
own_name (Scope f) = f
own_name (Resolved f) = f

-- `makers` makes the keys of a file
abbrev pub makers : List (List ℕ → SchemaKey)
makers =
    (λ n. Input n)
    ∷ (λ n. Parse n)
    ∷ (λ n. Items n)
    ∷ (λ n. Imports n)
    ∷ (λ n. Linked n)
    ∷ (λ n. Defs n)
    ∷ (λ n. Scope n)
    ∷ (λ n. Resolved n)
    ∷ []

-- `schema_reach files k` is the keys that the evaluation of `k` may ask: those of its file and of
-- the files that any file imports
abbrev pub schema_reach : Sources → SchemaKey → List SchemaKey
schema_reach files k = keys_by makers (own_name k ∷ all_mentioned false files)

-- `schema_code key` is the code of the file's name in `key`
abbrev pub schema_code : SchemaKey → ℕ
schema_code (Input file) = text_code file
schema_code (Parse file) = text_code file
schema_code (Items file) = text_code file
schema_code (Imports file) = text_code file
schema_code (Linked file) = text_code file
schema_code (Defs file) = text_code file
schema_code (Scope file) = text_code file
schema_code (Resolved file) = text_code file
