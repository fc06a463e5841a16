-- Auxiliary: the rule set of proto3 files, put together from its queries. The law `proto_values`
-- says what its keys mean.
use Rattle.std.specs.Prelude.{ℕ, Bool, List, [], ◌∷◌, map, Option, Some, None}
use Rattle.pq_inputs.specs.Sources.{Sources}
use Rattle.pq_rules.specs.aux.Codes.{coded, text_code}
use Rattle.pq_rules.specs.declared.turn.Turn.{Turn}
use Rattle.pq_rules.specs.declared.turn.Turn.TheVariants.{Done}
use Rattle.pq_rules.specs.declared.turn.Answer.{Answer}
use Rattle.pq_rules.specs.declared.turn.Answer.TheVariants.{Value, Cycle}
use Rattle.pq_rules.specs.Turns.{Machine}
use Rattle.pq_rules.specs.Embedding.{embedded}
use Rattle.pq_rules.specs.aux.KeysBy.{keys_by}
use Rattle.pq_links.specs.Visibility.{no_links}
use Rattle.pq_links.specs.aux.Mentioned.{all_mentioned}
use Rattle.pq_links.specs.aux.Queries.{parse_starts, parse_advances, items_starts, items_advances, imports_starts, imports_advances, linked_starts, linked_advances, linked_left}
use Rattle.pq_links.specs.Files.{nodes_in}
use Rattle.pq_links.specs.declared.file_items.FileItems.{FileItems}
use Rattle.pq_links.specs.declared.files.ParsedFile.{ParsedFile}
use Rattle.pq_links.specs.declared.linked.Linking.{Linking}
use Rattle.pq_links.specs.declared.links.Import.{Import}
use Rattle.pq_links.specs.declared.links.Links.{Links}
use Rattle.pq_schema.specs.Contents.{Defs}
use Rattle.pq_schema.specs.ScopeContents.{Scope}
use Rattle.pq_schema.specs.Missing.{no_defs, no_scope}
use Rattle.pq_schema.specs.aux.Queries.{defs_starts, defs_advances, scope_starts, scope_advances, scope_left, resolved_starts, resolved_advances, resolved_left}
use Rattle.pq_schema.specs.declared.queries.resolved.ResolvedReference.{ResolvedReference}
use Rattle.pq_schema.specs.declared.queries.resolved.ResolvedPart.{ResolvedPart}
use Rattle.pq_schema.specs.declared.queries.scopes.ScopePart.{ScopePart}
use Rattle.pq_checks.specs.Answers.{CheckWords}
use Rattle.pq_checks.specs.aux.DiagnosticsTurns.{diagnostics_starts, diagnostics_advances, diagnostics_left}
use Rattle.pq_checks.specs.aux.Queries.{check_starts, check_advances, check_left}
use Rattle.pq_checks.specs.declared.queries.checked.CheckPart.{CheckPart}
use Rattle.pq_checks.specs.declared.errors.diagnostic.Diagnosed.{Diagnosed}
use Rattle.pq_checks.specs.declared.queries.diagnostics.DiagnosticsPart.{DiagnosticsPart}
use Rattle.pq_checks.specs.declared.errors.fault.Fault.{Fault}
pub use Rattle.pq_proto.specs.Keys.{own_name}
use Rattle.pq_proto.specs.Levels.{level_of}
use Rattle.pq_proto.specs.aux.Outputs.{faults_read, items_read, parsed_read, resolved_read, descriptor_starts, descriptor_advances, descriptor_left, symbols_starts, symbols_advances, definition_starts, definition_advances, definition_left}
use Rattle.pq_proto.specs.declared.key.ProtoKey.{ProtoKey}
use Rattle.pq_proto.specs.declared.key.ProtoKey.TheVariants as keys
use Rattle.pq_proto.specs.declared.queries.definition.DefinitionPart.{DefinitionPart}
use Rattle.pq_proto.specs.declared.queries.descriptor.DescriptorPart.{DescriptorPart}
use Rattle.pq_proto.specs.declared.rules.ProtoPart.{ProtoPart}
use Rattle.pq_proto.specs.declared.rules.ProtoPart.TheVariants.{Parsing, Itemizing, Importing, LinkingFiles, Defining, Scoping, Resolving, Checking, Diagnosing, Describing, Listing, Locating}
use Rattle.pq_proto.specs.declared.value.Location.{Location}
use Rattle.pq_proto.specs.declared.value.ProtoValue.{ProtoValue}
use Rattle.pq_proto.specs.declared.value.ProtoValue.TheVariants as values

-- ---- what is read of an answer, beside what `Outputs` reads

-- `text_read`, `imports_read`, `links_read`, `defs_read` and `scope_read` are what the
-- answer holds; one of another kind reads as that of an absent file
abbrev pub text_read : Answer ProtoKey ProtoValue → Option (List ℕ)
text_read (Value (values.Source text)) = text
text_read _ = None

abbrev pub imports_read : Answer ProtoKey ProtoValue → Option (List Import)
imports_read (Value (values.Imports is)) = is
imports_read _ = None

abbrev pub links_read : Answer ProtoKey ProtoValue → Links
links_read (Value (values.Linked links)) = links
links_read _ = no_links

abbrev pub defs_read : Answer ProtoKey ProtoValue → Defs
defs_read (Value (values.Defs defs)) = defs
defs_read _ = no_defs

abbrev pub scope_read : Answer ProtoKey ProtoValue → Scope
scope_read (Value (values.Scope scope)) = scope
scope_read _ = no_scope

-- `ring_read a` is the files of the cycle that the answer `a` is, `None` of a value
abbrev pub ring_read : Answer ProtoKey ProtoValue → Option (List (List ℕ))
ring_read (Value v) = None
ring_read (Cycle ring) = Some (map own_name ring)

-- `check_words` is what the rule set offers the query of checks
abbrev pub check_words : CheckWords ProtoKey (Answer ProtoKey ProtoValue)
check_words = record {
  items = λ f. keys.Items f;
  imports = λ f. keys.Imports f;
  linked = λ f. keys.Linked f;
  defs = λ f. keys.Defs f;
  scope = λ f. keys.Scope f;
  resolved = λ f. keys.Resolved f;
  itemed = items_read;
  imported = imports_read;
  ring = ring_read;
  defined = defs_read;
  scoped = scope_read;
  referred = resolved_read;
}

-- ---- the turns

-- `proto_file k` is the file of the input key `k`
abbrev pub proto_file : ProtoKey → Option (List ℕ)
proto_file (keys.Input f) = Some f
proto_file _ = None

-- `parse_turn t` is the turn `t` of the query of parses as a turn of the rule set; the next eleven
-- are those of the other queries
abbrev pub parse_turn : Turn ProtoKey (Unit {0}) ParsedFile → Turn ProtoKey ProtoPart ProtoValue
parse_turn = embedded (λ q. Parsing) (λ v. values.Parse v)

abbrev pub items_turn : Turn ProtoKey (Unit {0}) FileItems → Turn ProtoKey ProtoPart ProtoValue
items_turn = embedded (λ q. Itemizing) (λ v. values.Items v)

abbrev pub imports_turn : Turn ProtoKey (Unit {0}) (Option (List Import)) → Turn ProtoKey ProtoPart ProtoValue
imports_turn = embedded (λ q. Importing) (λ v. values.Imports v)

abbrev pub linked_turn : Turn ProtoKey Linking Links → Turn ProtoKey ProtoPart ProtoValue
linked_turn = embedded (λ q. LinkingFiles q) (λ v. values.Linked v)

abbrev pub defs_turn : Turn ProtoKey (Unit {0}) Defs → Turn ProtoKey ProtoPart ProtoValue
defs_turn = embedded (λ q. Defining) (λ v. values.Defs v)

abbrev pub scope_turn : Turn ProtoKey ScopePart Scope → Turn ProtoKey ProtoPart ProtoValue
scope_turn = embedded (λ q. Scoping q) (λ v. values.Scope v)

abbrev pub resolved_turn : Turn ProtoKey ResolvedPart (List ResolvedReference) → Turn ProtoKey ProtoPart ProtoValue
resolved_turn = embedded (λ q. Resolving q) (λ v. values.Resolved v)

abbrev pub checks_turn : Turn ProtoKey CheckPart (List Fault) → Turn ProtoKey ProtoPart ProtoValue
checks_turn = embedded (λ q. Checking q) (λ v. values.Checks v)

abbrev pub diagnostics_turn : Turn ProtoKey DiagnosticsPart Diagnosed → Turn ProtoKey ProtoPart ProtoValue
diagnostics_turn = embedded (λ q. Diagnosing q) (λ v. values.Diagnostics v)

abbrev pub descriptor_turn : Turn ProtoKey DescriptorPart (List ℕ) → Turn ProtoKey ProtoPart ProtoValue
descriptor_turn = embedded (λ q. Describing q) (λ v. values.Descriptor v)

abbrev pub symbols_turn : Turn ProtoKey (Unit {0}) (List ℕ) → Turn ProtoKey ProtoPart ProtoValue
symbols_turn = embedded (λ q. Listing) (λ v. values.Symbols v)

abbrev pub definition_turn : Turn ProtoKey DefinitionPart (Option Location) → Turn ProtoKey ProtoPart ProtoValue
definition_turn = embedded (λ q. Locating q) (λ v. values.Definition v)

-- `proto_start k` is the first turn of the key `k`; an input has no rule, so its turn is not asked
-- for
abbrev pub proto_start : ProtoKey → Turn ProtoKey ProtoPart ProtoValue
proto_start (keys.Input f) = Done (values.Source None)
proto_start (keys.Parse f) = parse_turn (parse_starts (λ n. keys.Input n) f)
proto_start (keys.Items f) = items_turn (items_starts (λ n. keys.Parse n) f)
proto_start (keys.Imports f) = imports_turn (imports_starts (λ n. keys.Items n) f)
proto_start (keys.Linked f) = linked_turn (linked_starts (λ n. keys.Imports n) f)
proto_start (keys.Defs f) = defs_turn (defs_starts (λ n. keys.Items n) f)
proto_start (keys.Scope f) = scope_turn (scope_starts (λ n. keys.Linked n) f)
proto_start (keys.Resolved f) = resolved_turn (resolved_starts (λ n. keys.Scope n) f)
proto_start (keys.Checks f) = checks_turn (check_starts (λ n. keys.Items n) f)
proto_start (keys.Diagnostics f) = diagnostics_turn (diagnostics_starts (λ n. keys.Parse n) f)
proto_start (keys.Descriptor f) = descriptor_turn (descriptor_starts f)
proto_start (keys.Symbols f) = symbols_turn (symbols_starts f)
proto_start (keys.Definition f place) = definition_turn (definition_starts f place)

-- `proto_advance loose part a` is the turn that follows `part` by the answer `a`
abbrev pub proto_advance : Bool → ProtoPart → Answer ProtoKey ProtoValue → Turn ProtoKey ProtoPart ProtoValue
proto_advance loose Parsing a = parse_turn (parse_advances loose (text_read a))
proto_advance loose Itemizing a = items_turn (items_advances (parsed_read a))
proto_advance loose Importing a = imports_turn (imports_advances (items_read a))
proto_advance loose (LinkingFiles q) a = linked_turn (linked_advances (λ n. keys.Linked n) (imports_read a) (links_read a) q)
proto_advance loose Defining a = defs_turn (defs_advances (nodes_in (items_read a)))
proto_advance loose (Scoping q) a = scope_turn (scope_advances (λ n. keys.Defs n) (links_read a) (defs_read a) q)
proto_advance loose (Resolving q) a = resolved_turn (resolved_advances (λ n. keys.Items n) (scope_read a) (nodes_in (items_read a)) q)
proto_advance loose (Checking q) a = checks_turn (check_advances check_words q a)
proto_advance loose (Diagnosing q) a = diagnostics_turn (diagnostics_advances (λ n. keys.Checks n) (faults_read a) (parsed_read a) q)
proto_advance loose (Describing q) a = descriptor_turn (descriptor_advances q a)
proto_advance loose Listing a = symbols_turn (symbols_advances a)
proto_advance loose (Locating q) a = definition_turn (definition_advances q a)

-- `proto_left part` is what is left to ask at `part`
abbrev pub proto_left : ProtoPart → ℕ × ℕ
proto_left (LinkingFiles q) = linked_left q
proto_left (Scoping q) = scope_left q
proto_left (Resolving q) = resolved_left q
proto_left (Checking q) = check_left q
proto_left (Diagnosing q) = diagnostics_left q
proto_left (Describing q) = descriptor_left q
proto_left (Locating q) = definition_left q
proto_left _ = (0, 0)

-- `proto_rules loose` is the rule set, which reads the braces of a text with an error if `loose`
abbrev pub proto_rules : Bool → Machine ProtoKey ProtoPart ProtoValue
proto_rules loose = record {
  level = level_of;
  file = proto_file;
  text = λ text. values.Source text;
  start = proto_start;
  advance = proto_advance loose;
  left = proto_left;
}

-- ---- the keys that are asked

-- `makers` makes the keys of a file that queries ask
abbrev pub makers : List (List ℕ → ProtoKey)
makers =
    (λ n. keys.Input n)
    ∷ (λ n. keys.Parse n)
    ∷ (λ n. keys.Items n)
    ∷ (λ n. keys.Imports n)
    ∷ (λ n. keys.Linked n)
    ∷ (λ n. keys.Defs n)
    ∷ (λ n. keys.Scope n)
    ∷ (λ n. keys.Resolved n)
    ∷ (λ n. keys.Checks n)
    ∷ (λ n. keys.Diagnostics n)
    ∷ []

-- `proto_reach loose files k` is the keys that the evaluation of `k` may ask: `k`, and those of its file
-- and of the files that any file imports
abbrev pub proto_reach : Bool → Sources → ProtoKey → List ProtoKey
proto_reach loose files k = k ∷ keys_by makers (own_name k ∷ all_mentioned loose files)

-- `proto_code key` is a number that is made of `key`
abbrev pub proto_code : ProtoKey → ℕ
proto_code (keys.Input file) = coded (text_code file) 0
proto_code (keys.Parse file) = coded (text_code file) 1
proto_code (keys.Items file) = coded (text_code file) 2
proto_code (keys.Imports file) = coded (text_code file) 3
proto_code (keys.Linked file) = coded (text_code file) 4
proto_code (keys.Defs file) = coded (text_code file) 5
proto_code (keys.Scope file) = coded (text_code file) 6
proto_code (keys.Resolved file) = coded (text_code file) 7
proto_code (keys.Checks file) = coded (text_code file) 8
proto_code (keys.Diagnostics file) = coded (text_code file) 9
proto_code (keys.Descriptor file) = coded (text_code file) 10
proto_code (keys.Symbols file) = coded (text_code file) 11
proto_code (keys.Definition file place) = coded (coded (text_code file) place.line) place.character
