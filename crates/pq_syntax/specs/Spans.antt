-- Where spans lie: the span of a statement, of a part of one, and of an error. An offset counts the
-- bytes of a text before it, so the whole text is the span from 0 to its length.
use Rattle.std.specs.Prelude.{ℕ, ◌≤◌, List, [], ◌∷◌, map}
use Rattle.std.specs.List.{All, flat_map}
use Rattle.pq_lex.specs.declared.token.Span.{Span}
use Rattle.pq_lex.specs.Tokens.{span}
use Rattle.pq_syntax.specs.declared.parts.Setting.{Setting}
use Rattle.pq_syntax.specs.declared.parts.Range.{Range}
use Rattle.pq_syntax.specs.declared.parts.RangeEnd.{RangeEnd}
use Rattle.pq_syntax.specs.declared.parts.RangeEnd.TheVariants.{Alone, To, Max}
use Rattle.pq_syntax.specs.declared.tree.Node.{Node}
use Rattle.pq_syntax.specs.declared.tree.Statement.{Statement}
use Rattle.pq_syntax.specs.declared.tree.Statement.TheVariants.{Import, Package, Option as OptionStatement, Message, Field, MapField, Oneof, ReservedNumbers, ReservedNames, Enum, Value, Service, Method, Extend}

-- `Within inner outer` is: `inner` begins at the start of `outer` or after it, does not end before
-- its own start, and ends at the end of `outer` or before it.
pub record Within (inner outer : Span) : Type 0 where
  pub from : outer.start ≤ inner.start
  pub ordered : inner.start ≤ inner.end
  pub to : inner.end ≤ outer.end

-- `setting_spans setting` is the span of `setting`, of its constant, and of each part of its name.
abbrev pub setting_spans : Setting → List Span
setting_spans setting = setting.span ∷ setting.constant.span ∷ map (λ part. part.span) setting.parts

-- `end_spans end` is the span of the number at the end of a range, if a number is written there.
abbrev pub end_spans : RangeEnd → List Span
end_spans Alone = []
end_spans (To number) = number.span ∷ []
end_spans Max = []

-- `range_spans range` is the span of `range` and of its numbers.
abbrev pub range_spans : Range → List Span
range_spans range = range.span ∷ range.first.span ∷ end_spans range.last

-- `part_spans statement` is the span of each part of `statement`: of its names, types, numbers,
-- strings, ranges and options, and of the parts of these.
abbrev pub part_spans : Statement → List Span
part_spans (Import kind file) = file.span ∷ []
part_spans (Package name) = name.span ∷ []
part_spans (OptionStatement setting) = setting_spans setting
part_spans (Message name) = name.span ∷ []
part_spans (Field label type_name name number options) =
    type_name.span ∷ name.span ∷ number.span ∷ flat_map setting_spans options
part_spans (MapField key value name number options) =
    key.span ∷ value.span ∷ name.span ∷ number.span ∷ flat_map setting_spans options
part_spans (Oneof name) = name.span ∷ []
part_spans (ReservedNumbers ranges) = flat_map range_spans ranges
part_spans (ReservedNames names) = map (λ name. name.span) names
part_spans (Enum name) = name.span ∷ []
part_spans (Value name number options) = name.span ∷ number.span ∷ flat_map setting_spans options
part_spans (Service name) = name.span ∷ []
part_spans (Method name input output) = name.span ∷ input.type_name.span ∷ output.type_name.span ∷ []
part_spans (Extend type_name) = type_name.span ∷ []

-- `IsPlaced size node` is: the span of `node` lies in a text of `size` bytes, and the span of each
-- part of its statement lies in the span of `node`.
pub record IsPlaced (size : ℕ) (node : Node) : Type 0 where
  pub statement : Within node.span (span 0 size)
  pub parts : All (λ part. Within part node.span) (part_spans node.statement)
