-- Auxiliary: what contracts see of the parts that are printed.
use Rattle.std.specs.Prelude.{ℕ, List, Option, Some, None, option_map, option_copied, string_bytes}
use Rattle.pq_syntax.specs.declared.parts.Name.{Name}
use Rattle.pq_syntax.specs.declared.tree.Statement.{Statement}
use Rattle.pq_syntax.specs.declared.tree.Statement.TheVariants.{Message, Field, MapField, Oneof, Enum, Value, Service, Method}
use Rattle.pq_proto.specs.Reserved.{integer}
use Rattle.pq_proto.specs.Types.{TypeOf}
use Rattle.pq_proto.specs.Descriptor.{FieldOf}
use Rattle.pq_proto.specs.declared.descriptor.types.TypeName.{TypeName}
use Rattle.pq_proto.specs.declared.descriptor.fields.FieldParts.{FieldParts}

-- `type_of t` is the type `t`
abbrev pub type_of : TypeName → TypeOf
type_of t = record { number = t.number; name = option_map string_bytes t.name }

-- `field_of f kind` is the field `f` of the type `kind`
abbrev pub field_of : FieldParts → TypeOf → FieldOf
field_of f kind = record {
  label = f.label;
  name = f.name.now;
  number = integer f.number;
  oneof = option_copied f.oneof;
  is_optional = f.is_optional;
  options = f.options.now;
  kind = kind;
}

-- `oneof_named statement` is the name of the oneof that `statement` is
abbrev pub oneof_named : Statement → Option (List ℕ)
oneof_named (Oneof name) = Some name.text
oneof_named _ = None

-- `kind_named statement` is the kind and the name of the symbol that `statement` declares
abbrev pub kind_named : Statement → Option (ℕ × Name)
kind_named (Message name) = Some (23, name)
kind_named (Field label kind name num options) = Some (8, name)
kind_named (MapField key value name num options) = Some (8, name)
kind_named (Enum name) = Some (10, name)
kind_named (Value name num options) = Some (22, name)
kind_named (Service name) = Some (11, name)
kind_named (Method name input output) = Some (6, name)
kind_named _ = None
