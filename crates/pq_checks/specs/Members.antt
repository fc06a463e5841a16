-- What the checks look at in a tree: its fields, enum values, reserved ranges and the like, each
-- list in text order. `item` is the number of the statement, `nth` counts its parts from 0. Packages,
-- oneofs, enums and extend blocks are listed by the numbers of their statements.
use Rattle.std.specs.Prelude.{ℕ, Bool, true, false, cond, List, [], ◌∷◌, map, flat_map, Option}
use Rattle.std.specs.List.{enumerate_from}
use Rattle.pq_syntax.specs.declared.parts.ConstantKind.{ConstantKind}
use Rattle.pq_syntax.specs.declared.parts.Name.{Name}
use Rattle.pq_syntax.specs.declared.parts.Number.{Number}
use Rattle.pq_syntax.specs.declared.parts.Range.{Range}
use Rattle.pq_syntax.specs.declared.parts.Setting.{Setting}
use Rattle.pq_syntax.specs.declared.parts.Strings.{Strings}
use Rattle.pq_syntax.specs.declared.tree.Node.{Node}
use Rattle.pq_syntax.specs.declared.tree.Statement.{Statement}
use Rattle.pq_syntax.specs.declared.tree.Statement.TheVariants.{Import, Package, Option as OptionStatement, Field, MapField, Oneof, ReservedNumbers, ReservedNames, Enum, Value, Extend}
use Rattle.pq_syntax.specs.Places.{Place, places}
use Rattle.pq_checks.specs.Owners.{Site, site_of}
use Rattle.pq_checks.specs.declared.tree.members.Kind.{Kind}
use Rattle.pq_checks.specs.declared.tree.members.Kind.TheVariants as kind
use Rattle.pq_checks.specs.declared.tree.members.Reserved.{Reserved}

-- A `Sited` is a statement, with its number and what contains it
abbrev pub Sited : Type 0
Sited = Site × Node

-- `sited_at p` is the statement at the place `p`
abbrev pub sited_at : Place → Sited
sited_at p = (site_of p, p.item.node)

-- `sited nodes` lists the statements `nodes`, each with its number and what contains it
abbrev pub sited : List Node → List Sited
sited nodes = map sited_at (places nodes)

-- `each_at f all` joins what `f` lists of each of the statements `all`
abbrev pub each_at : {A : Type 0} → (Site → Statement → List A) → List Sited → List A
each_at f all = flat_map (λ (s : Sited). f s.0 s.1.statement) all

-- ---- fields and enum values

-- A `Member` is a field or an enum value. `owner` is the number of the message or enum whose member
-- it is, `holder` that of the message, oneof or enum whose body it is in.
pub record Member : Type 0 where
  pub item : ℕ
  pub owner : Option ℕ
  pub holder : Option ℕ
  pub name : Name
  pub number : Number

-- `member_at s name number` is the member with the name `name` and the number `number` that the
-- statement at `s` is
abbrev pub member_at : Site → Name → Number → Member
member_at s name number = record { item = s.item; owner = s.around.owner; holder = s.around.holder; name = name; number = number }

-- `field_at s t` lists the field that the statement `t` at `s` is, if any; a map field is one
abbrev pub field_at : Site → Statement → List Member
field_at s (Field label kind name number options) = member_at s name number ∷ []
field_at s (MapField key value name number options) = member_at s name number ∷ []
field_at s _ = []

-- `fields all` lists the fields of the statements `all`, those of oneofs among them
abbrev pub fields : List Sited → List Member
fields all = each_at field_at all

-- `value_at s t` lists the enum value that the statement `t` at `s` is, if any
abbrev pub value_at : Site → Statement → List Member
value_at s (Value name number options) = member_at s name number ∷ []
value_at s _ = []

-- `values all` lists the enum values of the statements `all`
abbrev pub values : List Sited → List Member
values all = each_at value_at all

-- ---- packages, oneofs, enums and extend blocks

-- `is_of t kind` is whether the statement `t` is of the kind `kind`
abbrev pub is_of : Statement → Kind → Bool
is_of (Package name) kind.Package = true
is_of (Oneof name) kind.Oneof = true
is_of (Enum name) kind.Enum = true
is_of (Extend name) kind.Extend = true
is_of _ _ = false

-- `of_kind_at kind s t` lists the number of the statement `t` at `s` if it is of the kind `kind`
abbrev pub of_kind_at : Kind → Site → Statement → List ℕ
of_kind_at kind s t = cond (is_of t kind) (s.item ∷ []) []

-- `of_kind kind all` lists the numbers of the statements of the kind `kind` among `all`
abbrev pub of_kind : Kind → List Sited → List ℕ
of_kind kind all = each_at (of_kind_at kind) all

-- ---- what is reserved

-- `reserved_range s r` is the reserved range `r.1`, the range `r.0` of the statement at `s`
abbrev pub reserved_range : Site → ℕ × Range → Reserved
reserved_range s r = record { item = s.item; nth = r.0; owner = s.around.owner; in_enum = s.around.in_enum; range = r.1 }

-- `range_at s t` lists the reserved ranges of the statement `t` at `s`
abbrev pub range_at : Site → Statement → List Reserved
range_at s (ReservedNumbers ranges) = map (reserved_range s) (enumerate_from 0 ranges)
range_at s _ = []

-- `ranges all` lists the reserved ranges of the statements `all`
abbrev pub ranges : List Sited → List Reserved
ranges all = each_at range_at all

-- A `ReservedName` is a reserved name of the message or enum of the number `owner`
pub record ReservedName : Type 0 where
  pub owner : Option ℕ
  pub value : List ℕ

-- `reserved_name owner name` is the reserved name `name` of the message or enum `owner`
abbrev pub reserved_name : Option ℕ → Strings → ReservedName
reserved_name owner name = record { owner = owner; value = name.value }

-- `name_at s t` lists the reserved names of the statement `t` at `s`
abbrev pub name_at : Site → Statement → List ReservedName
name_at s (ReservedNames names) = map (reserved_name s.around.owner) names
name_at s _ = []

-- `reserved_names all` lists the reserved names of the statements `all`
abbrev pub reserved_names : List Sited → List ReservedName
reserved_names all = each_at name_at all

-- ---- imports and options

-- An `ImportName` is an import with the name of its file
pub record ImportName : Type 0 where
  pub item : ℕ
  pub value : List ℕ

-- `import_at s t` lists the import that the statement `t` at `s` is, if any
abbrev pub import_at : Site → Statement → List ImportName
import_at s (Import kind file) = record { item = s.item; value = file.value } ∷ []
import_at s _ = []

-- `imports all` lists the import statements of `all`
abbrev pub imports : List Sited → List ImportName
imports all = each_at import_at all

-- An `Opted` is an option statement in the body of the statement of the number `holder`
pub record Opted : Type 0 where
  pub holder : Option ℕ
  pub setting : Setting

-- `option_at s t` lists the option that the statement `t` at `s` is, if any
abbrev pub option_at : Site → Statement → List Opted
option_at s (OptionStatement setting) = record { holder = s.around.holder; setting = setting } ∷ []
option_at s _ = []

-- `option_statements all` lists the option statements of `all`
abbrev pub option_statements : List Sited → List Opted
option_statements all = each_at option_at all

-- An `Assigned` is the kind of the constant of an option: of the option `nth` of its statement
pub record Assigned : Type 0 where
  pub item : ℕ
  pub nth : ℕ
  pub kind : ConstantKind

-- `assigned item o` is the constant of the option `o.1`, the option `o.0` of the statement of the
-- number `item`
abbrev pub assigned : ℕ → ℕ × Setting → Assigned
assigned item o = record { item = item; nth = o.0; kind = o.1.constant.kind }

-- `all_assigned item options` lists the constants of all options `options` of that statement
abbrev pub all_assigned : ℕ → List Setting → List Assigned
all_assigned item options = map (assigned item) (enumerate_from 0 options)

-- `constant_at s t` lists the constants of the options of the statement `t` at `s`, an option
-- statement or one with options in brackets
abbrev pub constant_at : Site → Statement → List Assigned
constant_at s (OptionStatement setting) = assigned s.item (0, setting) ∷ []
constant_at s (Field label kind name number options) = all_assigned s.item options
constant_at s (MapField key value name number options) = all_assigned s.item options
constant_at s (Value name number options) = all_assigned s.item options
constant_at s _ = []

-- `constants all` lists the constants of the options of the statements `all`
abbrev pub constants : List Sited → List Assigned
constants all = each_at constant_at all
