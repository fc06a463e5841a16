-- What contains a statement, as the checks see it.
use Rattle.std.specs.Prelude.{ℕ, Bool, true, false, cond, List, [], ◌∷◌, Option, Some, None}
use Rattle.pq_syntax.specs.Places.{Item, Place}
use Rattle.pq_syntax.specs.declared.tree.Statement.{Statement}
use Rattle.pq_syntax.specs.declared.tree.Statement.TheVariants.{Oneof, Enum}
use Rattle.pq_checks.specs.Numbers.{Limits, field_limits, enum_limits}
use Rattle.pq_checks.specs.declared.tree.spots.Around.{Around}

-- `is_oneof s` is whether the statement `s` is a oneof
abbrev pub is_oneof : Statement → Bool
is_oneof (Oneof name) = true
is_oneof _ = false

-- `is_enum s` is whether the statement `s` is an enum
abbrev pub is_enum : Statement → Bool
is_enum (Enum name) = true
is_enum _ = false

-- `holder_of within` is the number of the innermost of the items `within`, or `None` if there are
-- none
abbrev pub holder_of : List Item → Option ℕ
holder_of [] = None
holder_of (i ∷ outer) = Some i.number

-- `owner_of within` is the number of the message or enum whose member a statement within the items
-- `within` is: the innermost that is not a oneof
abbrev pub owner_of : List Item → Option ℕ
owner_of [] = None
owner_of (i ∷ outer) = cond (is_oneof i.node.statement) (owner_of outer) (Some i.number)

-- `limits_by in_enum` is the limits of the numbers of an enum, or of a message
abbrev pub limits_by : Bool → Limits
limits_by in_enum = cond in_enum enum_limits field_limits

-- `is_in_enum within` is whether the innermost of the items `within` is an enum
abbrev pub is_in_enum : List Item → Bool
is_in_enum [] = false
is_in_enum (i ∷ outer) = is_enum i.node.statement

-- `around_of within` is what contains a statement within the items `within`
abbrev pub around_of : List Item → Around
around_of within = record { holder = holder_of within; owner = owner_of within; in_enum = is_in_enum within }

-- A `Site` is the number of a statement and what contains it
pub record Site : Type 0 where
  pub item : ℕ
  pub around : Around

-- `site_of p` is the number of the statement at the place `p` and what contains it
abbrev pub site_of : Place → Site
site_of p = record { item = p.item.number; around = around_of p.within }
