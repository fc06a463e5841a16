-- Reserved numbers and names as descriptors tell them (proto3 language specification, "Reserved").
use Rattle.std.specs.Prelude.{ℕ, cond, ℤ, pos, neg_ℤ, List, [], ◌∷◌, map, filter, unwrap_or}
use Rattle.std.specs.Str.{is_utf8}
use Rattle.serde_json.specs.Data.{Data, number}
use Rattle.serde_json.specs.Find.{of_integer}
use Rattle.pq_syntax.specs.declared.parts.Number.{Number}
use Rattle.pq_syntax.specs.declared.parts.Range.{Range}
use Rattle.pq_syntax.specs.declared.parts.RangeEnd.{RangeEnd}
use Rattle.pq_syntax.specs.declared.parts.RangeEnd.TheVariants.{Alone, To, Max}
use Rattle.pq_syntax.specs.declared.parts.Strings.{Strings}
use Rattle.pq_syntax.specs.declared.tree.Statement.{Statement}
use Rattle.pq_syntax.specs.declared.tree.Statement.TheVariants.{ReservedNumbers, ReservedNames}
use Rattle.pq_syntax.specs.Places.{Item}
use Rattle.pq_proto.specs.Bodies.{Body, each}
use Rattle.pq_proto.specs.Lists.{list_data, texts_data}

-- `integer n` is the number `n` with its sign. A number past 64 bits counts as 0; a file with one
-- has an error.
abbrev pub integer : Number → ℤ
integer n = cond n.negative (neg_ℤ (pos (unwrap_or n.value 0))) (pos (unwrap_or n.value 0))

-- `integer_data z` is the integer `z`
abbrev pub integer_data : ℤ → Data
integer_data z = number (of_integer z)

-- `last_of greatest r end` is the last number of the range `r`, which ends in `end`; `greatest` is
-- the number that `max` stands for
abbrev pub last_of : ℤ → Range → RangeEnd → ℤ
last_of greatest r Alone = integer r.first
last_of greatest r (To last) = integer last
last_of greatest r Max = greatest

-- `range_data greatest r` is the pair of the first and the last number of the range `r`
abbrev pub range_data : ℤ → Range → Data
range_data greatest r =
    list_data (integer_data (integer r.first) ∷ integer_data (last_of greatest r r.last) ∷ [])

-- `ranges_of statement` lists the ranges that `statement` reserves
abbrev pub ranges_of : Statement → List Range
ranges_of (ReservedNumbers ranges) = ranges
ranges_of _ = []

-- `ranges_data greatest body` is the list of the ranges that the statements of `body` reserve
abbrev pub ranges_data : ℤ → Body → Data
ranges_data greatest body =
    list_data (map (range_data greatest) (each (λ (i : Item) (inside : Body). ranges_of i.node.statement) body))

-- `name_texts names` lists the names among `names` that are UTF-8
abbrev pub name_texts : List Strings → List (List ℕ)
name_texts names = filter is_utf8 (map (λ (s : Strings). s.value) names)

-- `names_of statement` lists the names that `statement` reserves, those that are UTF-8
abbrev pub names_of : Statement → List (List ℕ)
names_of (ReservedNames names) = name_texts names
names_of _ = []

-- `names_data body` is the list of the names that the statements of `body` reserve
abbrev pub names_data : Body → Data
names_data body = texts_data (each (λ (i : Item) (inside : Body). names_of i.node.statement) body)
