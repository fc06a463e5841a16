-- The parts of a statement that have spans of their own, and where they are.
--
-- An item is a statement of a file with its number, counted from 0 in text order. A place is an
-- item and one of its parts. So a place stays where it is while text around it moves. What is left
-- out here is the span of nothing that is said of a file: the key type of a map field, the name of
-- an option, the numbers within a range, a reserved name, the type of an extend block.
use Rattle.std.specs.Prelude.{ℕ, ◌≡◌, List, [], ◌∷◌, Option, Some, None, option_and_then, slice_get}
use Rattle.std.specs.Option.{option_map}
use Rattle.pq_lex.specs.declared.token.Span.{Span}
use Rattle.pq_lex.specs.Tokens.{span}
use Rattle.pq_syntax.specs.Spans.{Within}
use Rattle.pq_syntax.specs.declared.parts.Range.{Range}
use Rattle.pq_syntax.specs.declared.parts.Setting.{Setting}
use Rattle.pq_syntax.specs.declared.tree.Node.{Node}
use Rattle.pq_syntax.specs.declared.tree.Statement.{Statement}
use Rattle.pq_syntax.specs.declared.tree.Statement.TheVariants.{Import, Package, Option as OptionStatement, Message, Field, MapField, Oneof, ReservedNumbers, Enum, Value, Service, Method}
use Rattle.pq_links.specs.declared.places.Part.{Part}
use Rattle.pq_links.specs.declared.places.Part.TheVariants as part
use Rattle.pq_links.specs.declared.places.TypePart.{TypePart}
use Rattle.pq_links.specs.declared.places.TypePart.TheVariants as types

-- `name_span s` is the span of the name of the statement `s`, or `None` if it has none. The name of
-- an import is that of the imported file.
unfoldable pub name_span : Statement → Option Span
name_span (Import kind file) = Some file.span
name_span (Package name) = Some name.span
name_span (Message name) = Some name.span
name_span (Field label kind name number options) = Some name.span
name_span (MapField key value name number options) = Some name.span
name_span (Oneof name) = Some name.span
name_span (Enum name) = Some name.span
name_span (Value name number options) = Some name.span
name_span (Service name) = Some name.span
name_span (Method name input output) = Some name.span
name_span _ = None

-- `number_span s` is the span of the number of the field or enum value `s`, its sign included, or
-- `None` of another statement
unfoldable pub number_span : Statement → Option Span
number_span (Field label kind name number options) = Some number.span
number_span (MapField key value name number options) = Some number.span
number_span (Value name number options) = Some number.span
number_span _ = None

-- `type_span part s` is the span of the type that is the part `part` of the statement `s`, or
-- `None` if it has no such part. The type of a map field is that of its values.
unfoldable pub type_span : TypePart → Statement → Option Span
type_span types.«Type» (Field label kind name number options) = Some kind.span
type_span types.«Type» (MapField key value name number options) = Some value.span
type_span types.Input (Method name input output) = Some input.type_name.span
type_span types.Output (Method name input output) = Some output.type_name.span
type_span _ _ = None

-- `settings_of s` lists the options of the statement `s`, in text order: that of an option
-- statement, or those in brackets
unfoldable pub settings_of : Statement → List Setting
settings_of (OptionStatement setting) = setting ∷ []
settings_of (Field label kind name number options) = options
settings_of (MapField key value name number options) = options
settings_of (Value name number options) = options
settings_of _ = []

-- `ranges_of s` lists the ranges of the reserved numbers `s`, in text order
unfoldable pub ranges_of : Statement → List Range
ranges_of (ReservedNumbers ranges) = ranges
ranges_of _ = []

-- `constant_span n s` is the span of the constant of the `n`th option of the statement `s`, its
-- sign included, where options count from 0
abbrev pub constant_span : ℕ → Statement → Option Span
constant_span n s = option_map (λ (o : Setting). o.constant.span) (slice_get (settings_of s) n)

-- `range_span n s` is the span of the `n`th range of the reserved numbers `s`, counted from 0
abbrev pub range_span : ℕ → Statement → Option Span
range_span n s = option_map (λ (r : Range). r.span) (slice_get (ranges_of s) n)

-- `span_at p node` is the span of the part `p` of the statement `node`, or `None` if it has no such
-- part
abbrev pub span_at : Part → Node → Option Span
span_at part.Whole node = Some node.span
span_at part.Name node = name_span node.statement
span_at part.Number node = number_span node.statement
span_at (part.«Type» t) node = type_span t node.statement
span_at (part.Constant n) node = constant_span n node.statement
span_at (part.Range n) node = range_span n node.statement

-- `place nodes item p` is the span of the part `p` of the item of the number `item` in a file with
-- the statements `nodes`, or `None` if there is no such item or part
abbrev pub place : List Node → ℕ → Part → Option Span
place nodes item p = option_and_then (span_at p) (slice_get nodes item)

-- `LiesIn size nodes item at` is that the span `at` lies in a text of `size` bytes, and in the
-- statement of the item of the number `item` of its statements `nodes`
pub record LiesIn (size : ℕ) (nodes : List Node) (item : ℕ) (at : Span) : Type 0 where
  pub node : Node
  pub is : slice_get nodes item ≡ Some node
  pub statement : Within at node.span
  pub text : Within at (span 0 size)
