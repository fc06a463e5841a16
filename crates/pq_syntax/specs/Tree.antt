-- The tree of a parse: the nodes of its statements, in text order. There is one view for each
-- statement of the grammar, and the rule is in the comment before it. A view is a total function: a
-- parse of another shape has no node. `depth` is the number of statements that contain the node.
use Rattle.std.specs.Prelude.{ℕ, zero, suc, cond, List, [], ◌∷◌, Option, Some, None, codes}
use Rattle.std.specs.Str.{bytes_eq}
use Rattle.pq_lex.specs.declared.token.Span.{Span}
use Rattle.pq_syntax.specs.Rule.{Parse}
use Rattle.pq_syntax.specs.Rule.Parse.{Leaf, Pair, Left, Right}
use Rattle.pq_syntax.specs.Words.{Word}
use Rattle.pq_syntax.specs.Parts.{span_of, name_of, strings_of, number_of, bound_of, setting_of, settings_of, range_of, enclosed_type_of, head_name, entry_of, list_of, listed}
use Rattle.pq_syntax.specs.declared.parts.Name.{Name}
use Rattle.pq_syntax.specs.declared.parser.fields.Tail.{Tail}
use Rattle.pq_syntax.specs.declared.tree.ImportKind.{ImportKind}
use Rattle.pq_syntax.specs.declared.tree.ImportKind.TheVariants.{Plain, Public, Weak}
use Rattle.pq_syntax.specs.declared.tree.Label.{Label}
use Rattle.pq_syntax.specs.declared.tree.Label.TheVariants.{Optional, Repeated}
use Rattle.pq_syntax.specs.declared.tree.Node.{Node}
use Rattle.pq_syntax.specs.declared.tree.Statement.{Statement}
use Rattle.pq_syntax.specs.declared.tree.Statement.TheVariants.{Import, Package, Option as OptionStatement, Message, Field, MapField, Oneof, ReservedNumbers, ReservedNames, Enum, Value, Service, Method, Extend}

-- `either first second p` is the nodes of `p`, a parse of one of two alternatives, by the view of
-- that alternative.
abbrev pub either : (Parse Word → List Node) → (Parse Word → List Node) → Parse Word → List Node
either first second (Left p) = first p
either first second (Right p) = second p
either first second _ = []

-- `no_nodes p` is the nodes of an empty statement: none.
abbrev pub no_nodes : Parse Word → List Node
no_nodes p = []

-- `node_of depth p s` is the node of the statement `s` with the span of `p`.
abbrev pub node_of : ℕ → Parse Word → Statement → Node
node_of depth p s = record { depth = depth; span = span_of p; statement = s }

-- `spanning n span` is the node `n` with another span.
abbrev pub spanning : Node → Span → Node
spanning n span = record { depth = n.depth; span = span; statement = n.statement }

-- "option" optset ";"
abbrev pub option_nodes : ℕ → Parse Word → List Node
option_nodes depth (Pair keyword (Pair set semicolon)) = node_of depth (Pair keyword (Pair set semicolon)) (OptionStatement (setting_of set)) ∷ []
option_nodes depth _ = []

-- `tail_of p` is the name, the number and the options of a field: ident "=" integer [ opts ] ";"
abbrev pub tail_of : Parse Word → Tail
tail_of (Pair name (Pair equals (Pair number (Pair options semicolon)))) = record { name = name_of name; number = number_of number; options = settings_of options }
tail_of p = record { name = name_of p; number = number_of p; options = [] }

-- `field_of label kind tail` is the field of a label, a type and a tail.
abbrev pub field_of : Option Label → Parse Word → Parse Word → Statement
field_of label kind tail = let t = tail_of tail in Field label (name_of kind) t.name t.number t.options

-- type tail
abbrev pub field_nodes : ℕ → Parse Word → List Node
field_nodes depth (Pair kind tail) = node_of depth (Pair kind tail) (field_of None kind tail) ∷ []
field_nodes depth _ = []

-- `label_of p` is the label `p`: "optional" | "repeated".
abbrev pub label_of : Parse Word → Label
label_of (Leaf w) = cond (bytes_eq w.text (codes "optional")) Optional Repeated
label_of _ = Repeated

-- label type tail
abbrev pub labelled_nodes : ℕ → Parse Word → List Node
labelled_nodes depth (Pair label (Pair kind tail)) = node_of depth (Pair label (Pair kind tail)) (field_of (Some (label_of label)) kind tail) ∷ []
labelled_nodes depth _ = []

-- "map" "<" keytype "," type ">" tail, or a plain field whose type begins with the name map
abbrev pub mapped_nodes : ℕ → Parse Word → List Node
mapped_nodes depth (Pair map' (Left (Pair entry tail))) =
    let e = entry_of entry in let t = tail_of tail in node_of depth (Pair map' (Left (Pair entry tail))) (MapField e.0 e.1 t.name t.number t.options) ∷ []
mapped_nodes depth (Pair map' (Right (Pair dotted tail))) = node_of depth (Pair map' (Right (Pair dotted tail))) (field_of None (Pair map' dotted) tail) ∷ []
mapped_nodes depth _ = []

-- a statement with a body: keyword ident "{" items "}"
abbrev pub body_nodes : ℕ → (Name → Statement) → (Parse Word → List Node) → Parse Word → List Node
body_nodes depth statement items (Pair head (Pair body close')) = node_of depth (Pair head (Pair body close')) (statement (head_name head)) ∷ list_of items body
body_nodes depth statement items _ = []

-- option | type tail | ";"
abbrev pub oneof_item_nodes : ℕ → Parse Word → List Node
oneof_item_nodes depth = either (option_nodes depth) (either (field_nodes depth) no_nodes)

abbrev pub oneof_nodes : ℕ → Parse Word → List Node
oneof_nodes depth = body_nodes depth (λ name. Oneof name) (oneof_item_nodes (suc depth))

-- "reserved" ( ranges | strings ) ";"
abbrev pub reserved_nodes : ℕ → Parse Word → List Node
reserved_nodes depth (Pair keyword (Pair (Left ranges) semicolon)) = node_of depth (Pair keyword (Pair (Left ranges) semicolon)) (ReservedNumbers (listed range_of ranges)) ∷ []
reserved_nodes depth (Pair keyword (Pair (Right names) semicolon)) = node_of depth (Pair keyword (Pair (Right names) semicolon)) (ReservedNames (listed strings_of names)) ∷ []
reserved_nodes depth _ = []

-- ident "=" [ "-" ] integer [ opts ] ";"
abbrev pub value_nodes : ℕ → Parse Word → List Node
value_nodes depth (Pair name (Pair equals (Pair number (Pair options semicolon)))) =
    node_of depth (Pair name (Pair equals (Pair number (Pair options semicolon)))) (Value (name_of name) (bound_of number) (settings_of options)) ∷ []
value_nodes depth _ = []

-- option | reserved | value | ";"
abbrev pub enum_item_nodes : ℕ → Parse Word → List Node
enum_item_nodes depth = either (option_nodes depth) (either (reserved_nodes depth) (either (value_nodes depth) no_nodes))

abbrev pub enum_nodes : ℕ → Parse Word → List Node
enum_nodes depth = body_nodes depth (λ name. Enum name) (enum_item_nodes (suc depth))

-- option | ";"
abbrev pub method_item_nodes : ℕ → Parse Word → List Node
method_item_nodes depth = either (option_nodes depth) no_nodes

-- "{" items "}" | ";"
abbrev pub method_end_nodes : ℕ → Parse Word → List Node
method_end_nodes depth (Left (Pair open' (Pair items close'))) = list_of (method_item_nodes depth) items
method_end_nodes depth _ = []

-- "rpc" ident "(" type ")" "returns" "(" type ")" end
abbrev pub method_nodes : ℕ → Parse Word → List Node
method_nodes depth (Pair keyword (Pair name (Pair input (Pair returns (Pair output end))))) =
    node_of depth (Pair keyword (Pair name (Pair input (Pair returns (Pair output end)))))
    (Method (name_of name) (enclosed_type_of input) (enclosed_type_of output)) ∷ method_end_nodes (suc depth) end
method_nodes depth _ = []

-- option | rpc | ";"
abbrev pub service_item_nodes : ℕ → Parse Word → List Node
service_item_nodes depth = either (option_nodes depth) (either (method_nodes depth) no_nodes)

abbrev pub service_nodes : ℕ → Parse Word → List Node
service_nodes depth = body_nodes depth (λ name. Service name) (service_item_nodes (suc depth))

-- "extend" type block
abbrev pub extend_nodes : ℕ → Parse Word → List Node
extend_nodes depth (Pair keyword (Pair kind block)) = node_of depth (Pair keyword (Pair kind block)) (Extend (name_of kind)) ∷ []
extend_nodes depth _ = []

-- enum | extend | option | oneof | reserved | labelled | mapped | ";" | field
abbrev pub statement_nodes : ℕ → Parse Word → List Node
statement_nodes depth =
    either (enum_nodes depth) (either (extend_nodes depth) (either (option_nodes depth)
    (either (oneof_nodes depth) (either (reserved_nodes depth) (either (labelled_nodes depth) (either (mapped_nodes depth) (either no_nodes (field_nodes depth))))))))

-- `item_nodes levels depth p` is the nodes of a statement of a message within which messages nest
-- `levels` deep: message | statement
unfoldable pub item_nodes : ℕ → ℕ → Parse Word → List Node
item_nodes zero depth = statement_nodes depth
item_nodes (suc levels) depth = either (body_nodes depth (λ name. Message name) (item_nodes levels (suc depth))) (statement_nodes depth)

abbrev pub message_nodes : ℕ → ℕ → Parse Word → List Node
message_nodes levels depth = body_nodes depth (λ name. Message name) (item_nodes levels (suc depth))

-- "import" [ "public" | "weak" ] strs ";"
abbrev pub import_kind_of : Parse Word → ImportKind
import_kind_of (Left (Leaf w)) = cond (bytes_eq w.text (codes "public")) Public Weak
import_kind_of _ = Plain

abbrev pub import_nodes : Parse Word → List Node
import_nodes (Pair keyword (Pair kind (Pair file semicolon))) = node_of 0 (Pair keyword (Pair kind (Pair file semicolon))) (Import (import_kind_of kind) (strings_of file)) ∷ []
import_nodes _ = []

-- "package" full ";"
abbrev pub package_nodes : Parse Word → List Node
package_nodes (Pair keyword (Pair name semicolon)) = node_of 0 (Pair keyword (Pair name semicolon)) (Package (name_of name)) ∷ []
package_nodes _ = []

-- import | package | option | message | enum | service | extend | ";"
abbrev pub file_item_nodes : ℕ → Parse Word → List Node
file_item_nodes levels =
    either import_nodes (either package_nodes (either (option_nodes 0) (either (message_nodes levels 0)
    (either (enum_nodes 0) (either (service_nodes 0) (either (extend_nodes 0) no_nodes))))))

-- syntax items
abbrev pub file_nodes : ℕ → Parse Word → List Node
file_nodes levels (Pair syntax' items) = list_of (file_item_nodes levels) items
file_nodes levels _ = []
