-- The numbers of fields and of enum values, and the ranges of them that are reserved (proto3
-- language specification, "Fields", "Reserved", "Enum definition"; Language Guide (proto 3),
-- "Assigning Field Numbers").
use Rattle.std.specs.Prelude.{ℤ, pos, neg_ℤ, int_le, Bool, ◌&&◌, cond, Option, Some, None, option_map, option_and_then}
use Rattle.pq_syntax.specs.declared.parts.Number.{Number}
use Rattle.pq_syntax.specs.declared.parts.Range.{Range}
use Rattle.pq_syntax.specs.declared.parts.RangeEnd.{RangeEnd}
use Rattle.pq_syntax.specs.declared.parts.RangeEnd.TheVariants.{Alone, To, Max}
use Rattle.pq_checks.specs.declared.tree.numbers.Bounds.{Bounds}

-- `Limits` is the least and the greatest number of a kind
pub record Limits : Type 0 where
  pub least : ℤ
  pub greatest : ℤ

-- `field_limits` is the limits of field numbers
abbrev pub field_limits : Limits
field_limits = record { least = pos 1; greatest = pos 536870911 }

-- `enum_limits` is the limits of the numbers of enum values: those of 32 bits with a sign
abbrev pub enum_limits : Limits
enum_limits = record { least = neg_ℤ (pos 2147483648); greatest = pos 2147483647 }

-- `is_between least greatest z` is that `z` is at least `least` and at most `greatest`
abbrev pub is_between : ℤ → ℤ → ℤ → Bool
is_between least greatest z = int_le least z && int_le z greatest

-- `signed n` is the number `n` with its sign, or `None` if it does not fit 64 bits
abbrev pub signed : Number → Option ℤ
signed n = option_map (λ v. cond n.negative (neg_ℤ (pos v)) (pos v)) n.value

-- `within limits z` is `z`, or `None` if it is outside `limits`
abbrev pub within : Limits → ℤ → Option ℤ
within limits z = cond (is_between limits.least limits.greatest z) (Some z) None

-- `number_in limits n` is the number `n`, or `None` if it is outside `limits`
abbrev pub number_in : Limits → Number → Option ℤ
number_in limits n = option_and_then (within limits) (signed n)

-- `last_in limits first end` is the last number of a range from `first` to `end`, or `None` if that
-- is outside `limits`
abbrev pub last_in : Limits → Number → RangeEnd → Option ℤ
last_in limits first Alone = number_in limits first
last_in limits first (To last) = number_in limits last
last_in limits first Max = Some limits.greatest

-- `bounds_from first last` is the bounds of a range with these, or `None` if one of them is missing
-- or the range is empty
abbrev pub bounds_from : Option ℤ → Option ℤ → Option Bounds
bounds_from None last = None
bounds_from (Some a) None = None
bounds_from (Some a) (Some b) = cond (int_le a b) (Some (record { first = a; last = b })) None

-- `bounds_of limits r` is the bounds of the range `r`, or `None` if it is empty or has a bound
-- outside `limits`: then it reserves nothing
abbrev pub bounds_of : Limits → Range → Option Bounds
bounds_of limits r = bounds_from (number_in limits r.first) (last_in limits r.first r.last)
