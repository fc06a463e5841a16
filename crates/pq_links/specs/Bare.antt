-- Statements without spans: each span is the empty one at the start of a text. So two statements
-- that differ only in where they are have the same copy.
use Rattle.std.specs.Prelude.{ℕ, map}
use Rattle.pq_lex.specs.declared.token.Span.{Span}
use Rattle.pq_syntax.specs.declared.parts.Constant.{Constant}
use Rattle.pq_syntax.specs.declared.parts.MethodType.{MethodType}
use Rattle.pq_syntax.specs.declared.parts.Name.{Name}
use Rattle.pq_syntax.specs.declared.parts.NamePart.{NamePart}
use Rattle.pq_syntax.specs.declared.parts.Number.{Number}
use Rattle.pq_syntax.specs.declared.parts.Range.{Range}
use Rattle.pq_syntax.specs.declared.parts.RangeEnd.{RangeEnd}
use Rattle.pq_syntax.specs.declared.parts.RangeEnd.TheVariants.{Alone, To, Max}
use Rattle.pq_syntax.specs.declared.parts.Setting.{Setting}
use Rattle.pq_syntax.specs.declared.parts.Strings.{Strings}
use Rattle.pq_syntax.specs.declared.tree.Node.{Node}
use Rattle.pq_syntax.specs.declared.tree.Statement.{Statement}
use Rattle.pq_syntax.specs.declared.tree.Statement.TheVariants.{Import, Package, Option as OptionStatement, Message, Field, MapField, Oneof, ReservedNumbers, ReservedNames, Enum, Value, Service, Method, Extend}

-- `nowhere` is the empty span at the start of a text
abbrev pub nowhere : Span
nowhere = record { start = 0; end = 0 }

-- `bare_name n` is the name `n` without its span
abbrev pub bare_name : Name → Name
bare_name n = record { text = n.text; span = nowhere }

-- `bare_number n` is the number `n` without its span
abbrev pub bare_number : Number → Number
bare_number n = record { negative = n.negative; value = n.value; span = nowhere }

-- `bare_strings s` is the strings `s` without their span
abbrev pub bare_strings : Strings → Strings
bare_strings s = record { value = s.value; span = nowhere }

-- `bare_part p` is the part `p` of an option's name without its span
abbrev pub bare_part : NamePart → NamePart
bare_part p = record { is_extension = p.is_extension; text = p.text; span = nowhere }

-- `bare_constant c` is the constant `c` without its span
abbrev pub bare_constant : Constant → Constant
bare_constant c = record { kind = c.kind; text = c.text; span = nowhere }

-- `bare_setting s` is the option `s` without spans
abbrev pub bare_setting : Setting → Setting
bare_setting s = record { parts = map bare_part s.parts; constant = bare_constant s.constant; span = nowhere }

-- `bare_end e` is the end `e` of a range without the span of its number
abbrev pub bare_end : RangeEnd → RangeEnd
bare_end Alone = Alone
bare_end (To n) = To (bare_number n)
bare_end Max = Max

-- `bare_range r` is the range `r` without spans
abbrev pub bare_range : Range → Range
bare_range r = record { first = bare_number r.first; last = bare_end r.last; span = nowhere }

-- `bare_type t` is the type `t` of a method's input or output without its span
abbrev pub bare_type : MethodType → MethodType
bare_type t = record { is_stream = t.is_stream; type_name = bare_name t.type_name }

-- `bare_statement s` is the statement `s` without spans
unfoldable pub bare_statement : Statement → Statement
bare_statement (Import kind file) = Import kind (bare_strings file)
bare_statement (Package name) = Package (bare_name name)
bare_statement (OptionStatement setting) = OptionStatement (bare_setting setting)
bare_statement (Message name) = Message (bare_name name)
bare_statement (Field label kind name number options) =
    Field label (bare_name kind) (bare_name name) (bare_number number) (map bare_setting options)
bare_statement (MapField key value name number options) =
    MapField (bare_name key) (bare_name value) (bare_name name) (bare_number number) (map bare_setting options)
bare_statement (Oneof name) = Oneof (bare_name name)
bare_statement (ReservedNumbers ranges) = ReservedNumbers (map bare_range ranges)
bare_statement (ReservedNames names) = ReservedNames (map bare_strings names)
bare_statement (Enum name) = Enum (bare_name name)
bare_statement (Value name number options) = Value (bare_name name) (bare_number number) (map bare_setting options)
bare_statement (Service name) = Service (bare_name name)
bare_statement (Method name input output) = Method (bare_name name) (bare_type input) (bare_type output)
bare_statement (Extend type_name) = Extend (bare_name type_name)

-- `node_at depth s` is the statement `s` at the depth `depth`, with the empty span
abbrev pub node_at : ℕ → Statement → Node
node_at depth s = record { depth = depth; span = nowhere; statement = s }

-- `bare n` is the statement `n` of a file without spans; its depth stays
abbrev pub bare : Node → Node
bare n = node_at n.depth (bare_statement n.statement)
