-- The definitions of a file, with their full names
-- (proto3 language specification, "Packages and Name Resolution" and "Maps").
use Rattle.std.specs.Prelude.{ℕ, Bool, true, false, cond, ◌||◌, ◌&&◌, nat_eq, nat_le, ◌-◌, List, [], ◌∷◌, ◌++◌, flat_map, codes}
use Rattle.pq_syntax.specs.declared.tree.Node.{Node}
use Rattle.pq_syntax.specs.declared.tree.Statement.{Statement}
use Rattle.pq_syntax.specs.declared.tree.Statement.TheVariants.{Package, Message, Field, MapField, Oneof, Enum, Value, Service, Method}
use Rattle.pq_syntax.specs.declared.parts.Name.{Name}
use Rattle.pq_syntax.specs.Places.{Item, Place, places, kept}
use Rattle.pq_schema.specs.Contents.{Defs}
use Rattle.pq_schema.specs.declared.define.definitions.Definition.{Definition}
use Rattle.pq_schema.specs.declared.define.definitions.DefinitionKind.{DefinitionKind}
use Rattle.pq_schema.specs.declared.define.definitions.DefinitionKind.TheVariants as kinds

-- `qualified scope name` is the full name of `name` in the scope of the full name `scope`: both,
-- with a dot between, or `name` alone in the empty scope
abbrev pub qualified : List ℕ → List ℕ → List ℕ
qualified [] name = name
qualified (c ∷ cs) name = (c ∷ cs) ++ codes "." ++ name

-- `first_package statement later` is the package that `statement` names, or `later` if it is not a
-- package statement
abbrev pub first_package : Statement → List ℕ → List ℕ
first_package (Package name) later = name.text
first_package _ later = later

-- `package_of nodes` is the package of a file with the statements `nodes`: that of its first
-- package statement, or the empty name
unfoldable pub package_of : List Node → List ℕ
package_of [] = []
package_of (n ∷ ns) = first_package n.statement (package_of ns)

-- `scope_of statement outer` is the scope of what `statement` contains, where `outer` is the scope
-- of the statement itself: messages and services have scopes of their own
abbrev pub scope_of : Statement → List ℕ → List ℕ
scope_of (Message name) outer = qualified outer name.text
scope_of (Service name) outer = qualified outer name.text
scope_of _ outer = outer

-- `scope_in root within` is the scope of a statement that the items `within` contain, the innermost
-- first, in a file of the package `root`
abbrev pub scope_in : List ℕ → List Item → List ℕ
scope_in root within = kept (λ i outer. scope_of i.node.statement outer) root within

-- `is_small c` is that the byte `c` is a small ASCII letter
abbrev pub is_small : ℕ → Bool
is_small c = nat_le 97 c && nat_le c 122

-- `is_letter c` is that the byte `c` is an ASCII letter
abbrev pub is_letter : ℕ → Bool
is_letter c = is_small c || (nat_le 65 c && nat_le c 90)

-- `capital c` is the capital of a small ASCII letter, and any other byte itself
abbrev pub capital : ℕ → ℕ
capital c = cond (is_small c) (c - 32) c

-- `camel first after name` is `name` without each "_", where each letter directly after a "_"
-- becomes a capital, and the first letter too. `first` is whether no letter came before `name`,
-- `after` whether the byte before it is a "_".
unfoldable pub camel : Bool → Bool → List ℕ → List ℕ
camel first after [] = []
camel first after (c ∷ cs) =
    cond (nat_eq c 95) (camel first true cs)
    (cond (is_letter c) (cond (first || after) (capital c) c ∷ camel false false cs)
    (c ∷ camel first false cs))

-- `entry_name field` is the name of the entry message of the map field `field`
abbrev pub entry_name : List ℕ → List ℕ
entry_name field = camel true false field ++ codes "Entry"

-- `named kind scope name number` is the definition of the name `name`, of the kind `kind`, by the
-- item of the number `number` in the scope `scope`
abbrev pub named : DefinitionKind → List ℕ → Name → ℕ → Definition
named kind scope name number = record {
  full_name = qualified scope name.text;
  kind = kind;
  item = number;
}

-- `entry_of scope name number` is the entry message of a map field of the name `name`; its item is
-- the field's
abbrev pub entry_of : List ℕ → Name → ℕ → Definition
entry_of scope name number = record {
  full_name = qualified scope (entry_name name.text);
  kind = kinds.Entry;
  item = number;
}

-- `defined_by scope number statement` lists what the item of the number `number` defines by
-- `statement` in the scope `scope`. An enum value is defined in the scope that holds its enum.
abbrev pub defined_by : List ℕ → ℕ → Statement → List Definition
defined_by scope number (Message name) = named kinds.Message scope name number ∷ []
defined_by scope number (Enum name) = named kinds.Enum scope name number ∷ []
defined_by scope number (Service name) = named kinds.Service scope name number ∷ []
defined_by scope number (Field label kind name field options) = named kinds.Field scope name number ∷ []
defined_by scope number (MapField key value name field options) =
    named kinds.Field scope name number ∷ entry_of scope name number ∷ []
defined_by scope number (Oneof name) = named kinds.Oneof scope name number ∷ []
defined_by scope number (Value name value options) = named kinds.Value scope name number ∷ []
defined_by scope number (Method name input output) = named kinds.Method scope name number ∷ []
defined_by scope number _ = []

-- `defined_at root place` lists what the item at `place` defines in a file of the package `root`
abbrev pub defined_at : List ℕ → Place → List Definition
defined_at root p = defined_by (scope_in root p.within) p.item.number p.item.node.statement

-- `definitions_of nodes` lists the definitions of a file with the statements `nodes`, in text order
abbrev pub definitions_of : List Node → List Definition
definitions_of nodes = flat_map (defined_at (package_of nodes)) (places nodes)

-- `defs_of nodes` is the package and the definitions of a file with the statements `nodes`
abbrev pub defs_of : List Node → Defs
defs_of nodes = record { package_name = package_of nodes; definitions = definitions_of nodes }
