-- The descriptor of a file as data (descriptor.proto, "FileDescriptorProto", "DescriptorProto",
-- "FieldDescriptorProto", "EnumDescriptorProto", "ServiceDescriptorProto").
--
-- All members of an object are always there, in byte order of their names. Lists are in text order.
-- It speaks of each tree; only that of a file without an error is sent.
use Rattle.std.specs.Prelude.{ℕ, cond, Bool, true, false, ℤ, pos, List, [], ◌∷◌, ◌++◌, codes, Option, Some, None}
use Rattle.std.specs.Str.{is_utf8}
use Rattle.serde_json.specs.Data.{Data, boolean, number, string, object, unsigned, member, no_members}
use Rattle.pq_syntax.specs.declared.parts.Name.{Name}
use Rattle.pq_syntax.specs.declared.parts.Number.{Number}
use Rattle.pq_syntax.specs.declared.parts.Setting.{Setting}
use Rattle.pq_syntax.specs.declared.tree.ImportKind.{ImportKind}
use Rattle.pq_syntax.specs.declared.tree.ImportKind.TheVariants.{Plain, Public, Weak}
use Rattle.pq_syntax.specs.declared.tree.Label.{Label}
use Rattle.pq_syntax.specs.declared.tree.Label.TheVariants.{Optional, Repeated}
use Rattle.pq_syntax.specs.declared.tree.Node.{Node}
use Rattle.pq_syntax.specs.declared.tree.Statement.{Statement}
use Rattle.pq_syntax.specs.declared.tree.Statement.TheVariants.{Import, Message, Field, MapField, Oneof, Enum, Value, Service, Method}
use Rattle.pq_syntax.specs.Places.{Item}
use Rattle.pq_schema.specs.Definitions.{qualified, entry_name, package_of}
use Rattle.pq_links.specs.declared.places.TypePart.TheVariants as parts
use Rattle.pq_schema.specs.declared.queries.resolved.ResolvedReference.{ResolvedReference}
use Rattle.pq_proto.specs.Bodies.{Body, Empty, Holds, body_of, each}
use Rattle.pq_proto.specs.Lists.{list_data, texts_data}
use Rattle.pq_proto.specs.Settings.{options_data, settings_in}
use Rattle.pq_proto.specs.Reserved.{integer, integer_data, names_data, ranges_data}
use Rattle.pq_proto.specs.Types.{TypeOf, text_or_null, message_type, field_type, key_type, referred}

-- ---- fields

-- `label_number label` is the number of a field's label: 3 if it is repeated, else 1
abbrev pub label_number : Option Label → ℕ
label_number None = 1
label_number (Some Optional) = 1
label_number (Some Repeated) = 3

-- `is_optional label` is whether `label` is `optional`
abbrev pub is_optional : Option Label → Bool
is_optional None = false
is_optional (Some Optional) = true
is_optional (Some Repeated) = false

-- A field: the number of its label, its name, its number, the oneof that it is in, whether
-- `optional` is written, its options and its type
pub record FieldOf : Type 0 where
  pub label : ℕ
  pub name : List ℕ
  pub number : ℤ
  pub oneof : Option (List ℕ)
  pub is_optional : Bool
  pub options : List Setting
  pub kind : TypeOf

-- `field_data f` is the field `f`
abbrev pub field_data : FieldOf → Data
field_data f =
    object (member (codes "label") (number (unsigned f.label))
    (member (codes "name") (string f.name)
    (member (codes "number") (integer_data f.number)
    (member (codes "oneof") (text_or_null f.oneof)
    (member (codes "optional") (boolean f.is_optional)
    (member (codes "options") (options_data f.options)
    (member (codes "type") (number (unsigned f.kind.number))
    (member (codes "typeName") (text_or_null f.kind.name) no_members))))))))

-- `entry_of scope field` is the full name of the entry message of the map field named `field` in
-- the message `scope`
abbrev pub entry_of : List ℕ → List ℕ → List ℕ
entry_of scope field = qualified scope (entry_name field)

-- `entry_type scope field` is the type of the map field named `field` in the message `scope`
abbrev pub entry_type : List ℕ → List ℕ → TypeOf
entry_type scope field = record { number = message_type; name = Some (codes "." ++ entry_of scope field) }

-- `field_by references scope oneof n statement` lists the field that `statement`, the item of the
-- number `n`, is in the message `scope` and the oneof `oneof`
abbrev pub field_by : List ResolvedReference → List ℕ → Option (List ℕ) → ℕ → Statement → List Data
field_by references scope oneof n (Field label kind name num options) =
    field_data (record {
      label = label_number label;
      name = name.text;
      number = integer num;
      oneof = oneof;
      is_optional = is_optional label;
      options = options;
      kind = field_type references n kind.text;
    }) ∷ []
field_by references scope oneof n (MapField key value name num options) =
    field_data (record {
      label = 3;
      name = name.text;
      number = integer num;
      oneof = oneof;
      is_optional = false;
      options = options;
      kind = entry_type scope name.text;
    }) ∷ []
field_by references scope oneof n _ = []

-- `fields_by references scope n inside statement` lists the fields that `statement` adds to the
-- message `scope`: of a oneof those in its body, `inside`
abbrev pub fields_by : List ResolvedReference → List ℕ → ℕ → Body → Statement → List Data
fields_by references scope n inside (Oneof name) =
    each (λ (i : Item) (deeper : Body). field_by references scope (Some name.text) i.number i.node.statement) inside
fields_by references scope n inside statement = field_by references scope None n statement

-- `fields_in references scope body` lists the fields of the message `scope` with the body `body`
abbrev pub fields_in : List ResolvedReference → List ℕ → Body → List Data
fields_in references scope body =
    each (λ (i : Item) (inside : Body). fields_by references scope i.number inside i.node.statement) body

-- `oneof_by statement` lists the name of the oneof that `statement` is
abbrev pub oneof_by : Statement → List (List ℕ)
oneof_by (Oneof name) = name.text ∷ []
oneof_by _ = []

-- `oneofs_data body` is the list of the names of the oneofs in `body`
abbrev pub oneofs_data : Body → Data
oneofs_data body = texts_data (each (λ (i : Item) (inside : Body). oneof_by i.node.statement) body)

-- ---- enums

-- `value_data name num options` is the enum value `name` of the number `num`
abbrev pub value_data : Name → Number → List Setting → Data
value_data name num options =
    object (member (codes "name") (string name.text)
    (member (codes "number") (integer_data (integer num))
    (member (codes "options") (options_data options) no_members)))

-- `value_by statement` lists the value that `statement` is
abbrev pub value_by : Statement → List Data
value_by (Value name num options) = value_data name num options ∷ []
value_by _ = []

-- `greatest_value` is the greatest number of an enum value
abbrev pub greatest_value : ℤ
greatest_value = pos 2147483647

-- `enum_data full name body` is the enum `name` of the full name `full` with the body `body`
abbrev pub enum_data : List ℕ → List ℕ → Body → Data
enum_data full name body =
    object (member (codes "fullName") (string full)
    (member (codes "name") (string name)
    (member (codes "options") (options_data (settings_in body))
    (member (codes "reservedNames") (names_data body)
    (member (codes "reservedRanges") (ranges_data greatest_value body)
    (member (codes "values") (list_data (each (λ (i : Item) (inside : Body). value_by i.node.statement) body)) no_members))))))

-- `enum_by scope inside statement` lists the enum that `statement`, with the body `inside`, is
abbrev pub enum_by : List ℕ → Body → Statement → List Data
enum_by scope inside (Enum name) = enum_data (qualified scope name.text) name.text inside ∷ []
enum_by scope inside _ = []

-- `enums_in scope body` lists the enums in `body`, in the scope `scope`
abbrev pub enums_in : List ℕ → Body → List Data
enums_in scope body = each (λ (i : Item) (inside : Body). enum_by scope inside i.node.statement) body

-- ---- messages

-- `greatest_field` is the greatest number of a field
abbrev pub greatest_field : ℤ
greatest_field = pos 536870911

-- `message_data references full name body inner` is the message `name` of the full name `full` with
-- the body `body`, where `inner` lists the messages in it
abbrev pub message_data : List ResolvedReference → List ℕ → List ℕ → Body → List Data → Data
message_data references full name body inner =
    object (member (codes "enums") (list_data (enums_in full body))
    (member (codes "fields") (list_data (fields_in references full body))
    (member (codes "fullName") (string full)
    (member (codes "mapEntry") (boolean false)
    (member (codes "messages") (list_data inner)
    (member (codes "name") (string name)
    (member (codes "oneofs") (oneofs_data body)
    (member (codes "options") (options_data (settings_in body))
    (member (codes "reservedNames") (names_data body)
    (member (codes "reservedRanges") (ranges_data greatest_field body) no_members))))))))))

-- `entry_field name n kind` is the field `name` of an entry, of the number `n` and the type `kind`
abbrev pub entry_field : List ℕ → ℕ → TypeOf → Data
entry_field name n kind =
    field_data (record {
      label = 1;
      name = name;
      number = pos n;
      oneof = None;
      is_optional = false;
      options = [];
      kind = kind;
    })

-- `entry_data full name key value` is the entry message `name` of the full name `full`, with keys
-- of the type `key` and values of the type `value`
abbrev pub entry_data : List ℕ → List ℕ → TypeOf → TypeOf → Data
entry_data full name key value =
    object (member (codes "enums") (list_data [])
    (member (codes "fields") (list_data (entry_field (codes "key") 1 key ∷ entry_field (codes "value") 2 value ∷ []))
    (member (codes "fullName") (string full)
    (member (codes "mapEntry") (boolean true)
    (member (codes "messages") (list_data [])
    (member (codes "name") (string name)
    (member (codes "oneofs") (list_data [])
    (member (codes "options") (list_data [])
    (member (codes "reservedNames") (list_data [])
    (member (codes "reservedRanges") (list_data []) no_members))))))))))

-- `message_by references scope n inside inner statement` lists the message that `statement`, the
-- item of the number `n` in `scope`, is or, as a map field, has as its entry. `inside` is its body,
-- and `inner full` lists the messages in it, where `full` is its full name.
abbrev pub message_by : List ResolvedReference → List ℕ → ℕ → Body → (List ℕ → List Data) → Statement → List Data
message_by references scope n inside inner (Message name) =
    message_data references (qualified scope name.text) name.text inside (inner (qualified scope name.text)) ∷ []
message_by references scope n inside inner (MapField key value name num options) =
    entry_data (entry_of scope name.text) (entry_name name.text) (key_type key.text) (field_type references n value.text) ∷ []
message_by references scope n inside inner _ = []

-- `messages_in references body scope` lists the messages in `body`, in the scope `scope`, an entry
-- at its field's place
unfoldable pub messages_in : List ResolvedReference → Body → List ℕ → List Data
messages_in references Empty scope = []
messages_in references (Holds item inside later) scope =
    message_by references scope item.number inside (messages_in references inside) item.node.statement
    ++ messages_in references later scope

-- ---- services

-- `method_data name input output is_client is_server body` is the method `name` of the types
-- `input` and `output` with the body `body`. `is_client` and `is_server` are whether its client and
-- its server stream.
abbrev pub method_data : List ℕ → TypeOf → TypeOf → Bool → Bool → Body → Data
method_data name input output is_client is_server body =
    object (member (codes "clientStreaming") (boolean is_client)
    (member (codes "input") (text_or_null input.name)
    (member (codes "name") (string name)
    (member (codes "options") (options_data (settings_in body))
    (member (codes "output") (text_or_null output.name)
    (member (codes "serverStreaming") (boolean is_server) no_members))))))

-- `method_by references n inside statement` lists the method that `statement`, with the body
-- `inside`, is
abbrev pub method_by : List ResolvedReference → ℕ → Body → Statement → List Data
method_by references n inside (Method name input output) =
    method_data name.text (referred references n parts.Input) (referred references n parts.Output) input.is_stream output.is_stream inside ∷ []
method_by references n inside _ = []

-- `methods_in references body` lists the methods in `body`
abbrev pub methods_in : List ResolvedReference → Body → List Data
methods_in references body =
    each (λ (i : Item) (inside : Body). method_by references i.number inside i.node.statement) body

-- `service_data references full name body` is the service `name` of the full name `full` with the
-- body `body`
abbrev pub service_data : List ResolvedReference → List ℕ → List ℕ → Body → Data
service_data references full name body =
    object (member (codes "fullName") (string full)
    (member (codes "methods") (list_data (methods_in references body))
    (member (codes "name") (string name)
    (member (codes "options") (options_data (settings_in body)) no_members))))

-- `service_by references scope inside statement` lists the service that `statement`, with the body
-- `inside`, is
abbrev pub service_by : List ResolvedReference → List ℕ → Body → Statement → List Data
service_by references scope inside (Service name) = service_data references (qualified scope name.text) name.text inside ∷ []
service_by references scope inside _ = []

-- `services_in references scope body` lists the services in `body`
abbrev pub services_in : List ResolvedReference → List ℕ → Body → List Data
services_in references scope body =
    each (λ (i : Item) (inside : Body). service_by references scope inside i.node.statement) body

-- ---- the file

-- `import_kind kind` is the name of the kind `kind` of an import
abbrev pub import_kind : ImportKind → List ℕ
import_kind Plain = codes "plain"
import_kind Public = codes "public"
import_kind Weak = codes "weak"

-- `import_data kind file` is the import of the kind `kind` of the file `file`
abbrev pub import_data : ImportKind → List ℕ → Data
import_data kind file =
    object (member (codes "kind") (string (import_kind kind)) (member (codes "name") (string file) no_members))

-- `import_by statement` lists the import that `statement` is, if its name is UTF-8
abbrev pub import_by : Statement → List Data
import_by (Import kind file) = cond (is_utf8 file.value) (import_data kind file.value ∷ []) []
import_by _ = []

-- `file_data references file package_name body` is the descriptor of the file `file` of the package
-- `package_name` with the body `body`
abbrev pub file_data : List ResolvedReference → List ℕ → List ℕ → Body → Data
file_data references file package_name body =
    object (member (codes "enums") (list_data (enums_in package_name body))
    (member (codes "imports") (list_data (each (λ (i : Item) (inside : Body). import_by i.node.statement) body))
    (member (codes "messages") (list_data (messages_in references body package_name))
    (member (codes "name") (string file)
    (member (codes "options") (options_data (settings_in body))
    (member (codes "package") (string package_name)
    (member (codes "services") (list_data (services_in references package_name body)) no_members)))))))

-- `descriptor references file nodes` is the descriptor of the file `file` with the statements
-- `nodes`, whose resolved references are `references`
abbrev pub descriptor : List ResolvedReference → List ℕ → List Node → Data
descriptor references file nodes = file_data references file (package_of nodes) (body_of nodes)
