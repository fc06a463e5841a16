-- Worked rows of the definitions.
use Rattle.std.specs.Prelude.{◌≡◌, ℕ, negsuc, Bool, true, false, List, [], ◌∷◌, map, codes, Option, Some, None, refl}
use Rattle.serde_json.specs.Data.{Data, null, boolean, number, string, array, object, unsigned, negative, Items, no_items, item, member, no_members}
use Rattle.pq_lex.specs.declared.position.Position.{Position}
use Rattle.pq_lex.specs.declared.token.Span.{Span}
use Rattle.pq_syntax.specs.declared.parts.ConstantKind.TheVariants as constants
use Rattle.pq_syntax.specs.declared.parts.MethodType.{MethodType}
use Rattle.pq_syntax.specs.declared.parts.Name.{Name}
use Rattle.pq_syntax.specs.declared.parts.Number.{Number}
use Rattle.pq_syntax.specs.declared.parts.RangeEnd.TheVariants as ends
use Rattle.pq_syntax.specs.declared.parts.Setting.{Setting}
use Rattle.pq_syntax.specs.declared.tree.Label.TheVariants.{Repeated}
use Rattle.pq_syntax.specs.declared.tree.Node.{Node}
use Rattle.pq_syntax.specs.declared.tree.Statement.{Statement}
use Rattle.pq_syntax.specs.declared.tree.Statement.TheVariants as statements
use Rattle.pq_schema.specs.Definitions.{package_of, camel}
use Rattle.pq_links.specs.Place.{type_span}
use Rattle.pq_links.specs.declared.places.TypePart.TheVariants as parts
use Rattle.pq_schema.specs.declared.search.resolution.Resolution.TheVariants as resolutions
use Rattle.pq_schema.specs.declared.queries.resolved.ResolvedReference.{ResolvedReference}
use Rattle.pq_proto.specs.Bodies.{body_at, each}
use Rattle.pq_proto.specs.Types.{referred}
use Rattle.pq_proto.specs.Descriptor.{descriptor, messages_in}
use Rattle.pq_proto.specs.Symbols.{symbols, symbols_in}
use Rattle.pq_proto.specs.Definition.{definition_at}
use Rattle.pq_proto.specs.declared.definition.TypeItem.{TypeItem}

abbrev span : ℕ → ℕ → Span
span start end = record { start = start; end = end }

abbrev name : List ℕ → Name
name text = record { text = text; span = span 0 0 }

abbrev num : ℕ → Number
num v = record { negative = false; value = Some v; span = span 0 0 }

abbrev node : ℕ → Statement → Node
node depth s = record { depth = depth; span = span 0 0; statement = s }

-- the reference of the item `n` that resolves to the message `full_name` of the item `i`
abbrev to_message : ℕ → List ℕ → ℕ → ResolvedReference
to_message n full_name i =
    record { item = n; part = parts.Type; resolution = resolutions.«Type» (record { file = codes "a.proto"; full_name = full_name; is_enum = false; item = i }) }

abbrev empty : Data
empty = array no_items

-- ---- package a; message M { map<string, N> foo_bar = 1; message N { repeated sint64 v = 2; } }

abbrev nested : List Node
nested =
    node 0 (statements.Package (name (codes "a"))) ∷ node 0 (statements.Message (name (codes "M")))
    ∷ node 1 (statements.MapField (name (codes "string")) (name (codes "N")) (name (codes "foo_bar")) (num 1) [])
    ∷ node 1 (statements.Message (name (codes "N")))
    ∷ node 2 (statements.Field (Some Repeated) (name (codes "sint64")) (name (codes "v")) (num 2) []) ∷ []

abbrev field : ℕ → List ℕ → ℕ → ℕ → Data → Data
field label n i t type_name =
    object (member (codes "label") (number (unsigned label)) (member (codes "name") (string n)
    (member (codes "number") (number (unsigned i)) (member (codes "oneof") null (member (codes "optional") (boolean false)
    (member (codes "options") empty (member (codes "type") (number (unsigned t)) (member (codes "typeName") type_name no_members))))))))

abbrev message : Items → List ℕ → Bool → Items → List ℕ → Data
message fields full is_entry messages n =
    object (member (codes "enums") empty (member (codes "fields") (array fields) (member (codes "fullName") (string full)
    (member (codes "mapEntry") (boolean is_entry) (member (codes "messages") (array messages) (member (codes "name") (string n)
    (member (codes "oneofs") empty (member (codes "options") empty (member (codes "reservedNames") empty
    (member (codes "reservedRanges") empty no_members))))))))))

pub nested_messages : descriptor (to_message 2 (codes "a.M.N") 3 ∷ []) (codes "a.proto") nested
    ≡ object (member (codes "enums") empty (member (codes "imports") empty (member (codes "messages") (array (item
    (message (item (field 3 (codes "foo_bar") 1 11 (string (codes ".a.M.FooBarEntry"))) no_items) (codes "a.M") false
    (item (message (item (field 1 (codes "key") 1 9 null) (item (field 1 (codes "value") 2 11 (string (codes ".a.M.N"))) no_items)) (codes "a.M.FooBarEntry") true no_items (codes "FooBarEntry"))
    (item (message (item (field 3 (codes "v") 2 18 null) no_items) (codes "a.M.N") false no_items (codes "N")) no_items)) (codes "M")) no_items))
    (member (codes "name") (string (codes "a.proto")) (member (codes "options") empty (member (codes "package") (string (codes "a"))
    (member (codes "services") empty no_members)))))))
unfolding body_at each messages_in referred package_of camel
nested_messages = refl

-- ---- enum E { option a.(b) = 5; A = 0; B = -1; reserved -3 to max; }
-- service S { rpc R (stream M) returns (M); } message M { oneof o { E e = 1; } }

abbrev below : ℕ → Number
below v = record { negative = true; value = Some v; span = span 0 0 }

abbrev setting : Setting
setting = record {
  parts = record { is_extension = false; text = codes "a"; span = span 0 0 } ∷ record { is_extension = true; text = codes "b"; span = span 0 0 } ∷ [];
  constant = record { kind = constants.Integer; text = codes "5"; span = span 0 0 };
  span = span 0 0;
}

abbrev takes : Bool → MethodType
takes is_stream = record { is_stream = is_stream; type_name = name (codes "M") }

abbrev varied : List Node
varied =
    node 0 (statements.Enum (name (codes "E"))) ∷ node 1 (statements.Option setting)
    ∷ node 1 (statements.Value (name (codes "A")) (num 0) []) ∷ node 1 (statements.Value (name (codes "B")) (below 1) [])
    ∷ node 1 (statements.ReservedNumbers (record { first = below 3; last = ends.Max; span = span 0 0 } ∷ []))
    ∷ node 0 (statements.Service (name (codes "S"))) ∷ node 1 (statements.Method (name (codes "R")) (takes true) (takes false))
    ∷ node 0 (statements.Message (name (codes "M"))) ∷ node 1 (statements.Oneof (name (codes "o")))
    ∷ node 2 (statements.Field None (name (codes "E")) (name (codes "e")) (num 1) []) ∷ []

abbrev varied_references : List ResolvedReference
varied_references =
    record { item = 6; part = parts.Input; resolution = resolutions.«Type» (record { file = codes "a.proto"; full_name = codes "M"; is_enum = false; item = 7 }) }
    ∷ record { item = 6; part = parts.Output; resolution = resolutions.«Type» (record { file = codes "a.proto"; full_name = codes "M"; is_enum = false; item = 7 }) }
    ∷ record { item = 9; part = parts.Type; resolution = resolutions.«Type» (record { file = codes "a.proto"; full_name = codes "E"; is_enum = true; item = 0 }) } ∷ []

pub each_kind : descriptor varied_references (codes "a.proto") varied
    ≡ object (member (codes "enums") (array (item (object (member (codes "fullName") (string (codes "E")) (member (codes "name") (string (codes "E")) (member (codes "options") (array (item (object (member (codes "name") (string (codes "a.(b)")) (member (codes "value") (object (member (codes "kind") (string (codes "integer")) (member (codes "text") (string (codes "5")) no_members))) no_members))) no_items)) (member (codes "reservedNames") (empty) (member (codes "reservedRanges") (array (item (array (item (number (negative (negsuc 2))) (item (number (unsigned 2147483647)) no_items))) no_items)) (member (codes "values") (array (item (object (member (codes "name") (string (codes "A")) (member (codes "number") (number (unsigned 0)) (member (codes "options") (empty) no_members)))) (item (object (member (codes "name") (string (codes "B")) (member (codes "number") (number (negative (negsuc 0))) (member (codes "options") (empty) no_members)))) no_items))) no_members))))))) no_items)) (member (codes "imports") (empty) (member (codes "messages") (array (item (object (member (codes "enums") (empty) (member (codes "fields") (array (item (object (member (codes "label") (number (unsigned 1)) (member (codes "name") (string (codes "e")) (member (codes "number") (number (unsigned 1)) (member (codes "oneof") (string (codes "o")) (member (codes "optional") (boolean false) (member (codes "options") (empty) (member (codes "type") (number (unsigned 14)) (member (codes "typeName") (string (codes ".E")) no_members))))))))) no_items)) (member (codes "fullName") (string (codes "M")) (member (codes "mapEntry") (boolean false) (member (codes "messages") (empty) (member (codes "name") (string (codes "M")) (member (codes "oneofs") (array (item (string (codes "o")) no_items)) (member (codes "options") (empty) (member (codes "reservedNames") (empty) (member (codes "reservedRanges") (empty) no_members))))))))))) no_items)) (member (codes "name") (string (codes "a.proto")) (member (codes "options") (empty) (member (codes "package") (string []) (member (codes "services") (array (item (object (member (codes "fullName") (string (codes "S")) (member (codes "methods") (array (item (object (member (codes "clientStreaming") (boolean true) (member (codes "input") (string (codes ".M")) (member (codes "name") (string (codes "R")) (member (codes "options") (empty) (member (codes "output") (string (codes ".M")) (member (codes "serverStreaming") (boolean false) no_members))))))) no_items)) (member (codes "name") (string (codes "S")) (member (codes "options") (empty) no_members))))) no_items)) no_members)))))))
unfolding body_at each messages_in referred package_of camel
each_kind = refl

-- ---- message M { oneof o { int32 f = 1; } enum E { A = 0; } }
-- service S { rpc R (M) returns (M); }

abbrev at : ℕ → ℕ → List ℕ → Name
at start end text = record { text = text; span = span start end }

abbrev spanned : ℕ → ℕ → ℕ → Statement → Node
spanned depth start end s = record { depth = depth; span = span start end; statement = s }

abbrev outlined : List Node
outlined =
    spanned 0 0 60 (statements.Message (at 8 9 (codes "M"))) ∷ spanned 1 12 32 (statements.Oneof (at 18 19 (codes "o")))
    ∷ spanned 2 20 30 (statements.Field None (at 20 25 (codes "int32")) (at 26 27 (codes "f")) (num 1) [])
    ∷ spanned 1 33 50 (statements.Enum (at 38 39 (codes "E"))) ∷ spanned 2 42 48 (statements.Value (at 42 43 (codes "A")) (num 0) [])
    ∷ spanned 0 61 99 (statements.Service (at 69 70 (codes "S"))) ∷ spanned 1 73 97 (statements.Method (at 77 78 (codes "R")) (takes false) (takes false)) ∷ []

-- the position of an offset on the only line of a text
abbrev on_one_line : ℕ → Position
on_one_line offset = record { line = 0; character = offset }

-- a oneof's fields are among the children of its message
pub one_line : symbols on_one_line outlined
    ≡ array (item (object (member (codes "children") (array (item (object (member (codes "children") (empty) (member (codes "kind") (number (unsigned 8)) (member (codes "name") (string (codes "f")) (member (codes "range") (object (member (codes "end") (object (member (codes "character") (number (unsigned 30)) (member (codes "line") (number (unsigned 0)) no_members))) (member (codes "start") (object (member (codes "character") (number (unsigned 20)) (member (codes "line") (number (unsigned 0)) no_members))) no_members))) (member (codes "selectionRange") (object (member (codes "end") (object (member (codes "character") (number (unsigned 27)) (member (codes "line") (number (unsigned 0)) no_members))) (member (codes "start") (object (member (codes "character") (number (unsigned 26)) (member (codes "line") (number (unsigned 0)) no_members))) no_members))) no_members)))))) (item (object (member (codes "children") (array (item (object (member (codes "children") (empty) (member (codes "kind") (number (unsigned 22)) (member (codes "name") (string (codes "A")) (member (codes "range") (object (member (codes "end") (object (member (codes "character") (number (unsigned 48)) (member (codes "line") (number (unsigned 0)) no_members))) (member (codes "start") (object (member (codes "character") (number (unsigned 42)) (member (codes "line") (number (unsigned 0)) no_members))) no_members))) (member (codes "selectionRange") (object (member (codes "end") (object (member (codes "character") (number (unsigned 43)) (member (codes "line") (number (unsigned 0)) no_members))) (member (codes "start") (object (member (codes "character") (number (unsigned 42)) (member (codes "line") (number (unsigned 0)) no_members))) no_members))) no_members)))))) no_items)) (member (codes "kind") (number (unsigned 10)) (member (codes "name") (string (codes "E")) (member (codes "range") (object (member (codes "end") (object (member (codes "character") (number (unsigned 50)) (member (codes "line") (number (unsigned 0)) no_members))) (member (codes "start") (object (member (codes "character") (number (unsigned 33)) (member (codes "line") (number (unsigned 0)) no_members))) no_members))) (member (codes "selectionRange") (object (member (codes "end") (object (member (codes "character") (number (unsigned 39)) (member (codes "line") (number (unsigned 0)) no_members))) (member (codes "start") (object (member (codes "character") (number (unsigned 38)) (member (codes "line") (number (unsigned 0)) no_members))) no_members))) no_members)))))) no_items))) (member (codes "kind") (number (unsigned 23)) (member (codes "name") (string (codes "M")) (member (codes "range") (object (member (codes "end") (object (member (codes "character") (number (unsigned 60)) (member (codes "line") (number (unsigned 0)) no_members))) (member (codes "start") (object (member (codes "character") (number (unsigned 0)) (member (codes "line") (number (unsigned 0)) no_members))) no_members))) (member (codes "selectionRange") (object (member (codes "end") (object (member (codes "character") (number (unsigned 9)) (member (codes "line") (number (unsigned 0)) no_members))) (member (codes "start") (object (member (codes "character") (number (unsigned 8)) (member (codes "line") (number (unsigned 0)) no_members))) no_members))) no_members)))))) (item (object (member (codes "children") (array (item (object (member (codes "children") (empty) (member (codes "kind") (number (unsigned 6)) (member (codes "name") (string (codes "R")) (member (codes "range") (object (member (codes "end") (object (member (codes "character") (number (unsigned 97)) (member (codes "line") (number (unsigned 0)) no_members))) (member (codes "start") (object (member (codes "character") (number (unsigned 73)) (member (codes "line") (number (unsigned 0)) no_members))) no_members))) (member (codes "selectionRange") (object (member (codes "end") (object (member (codes "character") (number (unsigned 78)) (member (codes "line") (number (unsigned 0)) no_members))) (member (codes "start") (object (member (codes "character") (number (unsigned 77)) (member (codes "line") (number (unsigned 0)) no_members))) no_members))) no_members)))))) no_items)) (member (codes "kind") (number (unsigned 11)) (member (codes "name") (string (codes "S")) (member (codes "range") (object (member (codes "end") (object (member (codes "character") (number (unsigned 99)) (member (codes "line") (number (unsigned 0)) no_members))) (member (codes "start") (object (member (codes "character") (number (unsigned 61)) (member (codes "line") (number (unsigned 0)) no_members))) no_members))) (member (codes "selectionRange") (object (member (codes "end") (object (member (codes "character") (number (unsigned 70)) (member (codes "line") (number (unsigned 0)) no_members))) (member (codes "start") (object (member (codes "character") (number (unsigned 69)) (member (codes "line") (number (unsigned 0)) no_members))) no_members))) no_members)))))) no_items))
unfolding body_at symbols_in
one_line = refl

-- ---- message N {} message M { N n = 1; }

abbrev two_messages : List Node
two_messages =
    spanned 0 0 12 (statements.Message (at 8 9 (codes "N"))) ∷ spanned 0 13 36 (statements.Message (at 21 22 (codes "M")))
    ∷ spanned 1 25 33 (statements.Field None (at 25 26 (codes "N")) (at 27 28 (codes "n")) (num 1) []) ∷ []

abbrev the_definition : ℕ → Option TypeItem
the_definition offset = definition_at two_messages offset (to_message 2 (codes "N") 0 ∷ [])

abbrev message_n : Option TypeItem
message_n = Some (record { file = codes "a.proto"; item = 0 })

-- both ends of a reference belong to it
pub at_a_reference : map the_definition (24 ∷ 25 ∷ 26 ∷ 27 ∷ []) ≡ None ∷ message_n ∷ message_n ∷ None ∷ []
unfolding definition_at type_span
at_a_reference = refl
