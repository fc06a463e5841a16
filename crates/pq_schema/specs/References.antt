-- The type references of a file: each name that has to be resolved to a type, its place, and the
-- message or service in whose scope it is used
-- (proto3 language specification, "Packages and Name Resolution").
use Rattle.std.specs.Prelude.{ℕ, Bool, false, cond, ◌||◌, bytes_eq, List, [], ◌∷◌, flat_map, codes}
use Rattle.pq_syntax.specs.declared.tree.Node.{Node}
use Rattle.pq_syntax.specs.declared.tree.Statement.{Statement}
use Rattle.pq_syntax.specs.declared.tree.Statement.TheVariants.{Field, MapField, Method}
use Rattle.pq_syntax.specs.Places.{Place, places}
use Rattle.pq_schema.specs.Definitions.{package_of, scope_in}
use Rattle.pq_schema.specs.declared.search.references.Reference.{Reference}
use Rattle.pq_links.specs.declared.places.TypePart.TheVariants as parts

-- `scalars` lists the names of the scalar types
abbrev pub scalars : List (List ℕ)
scalars =
    codes "double" ∷ codes "float" ∷ codes "int64" ∷ codes "uint64" ∷ codes "int32"
    ∷ codes "fixed64" ∷ codes "fixed32" ∷ codes "bool" ∷ codes "string" ∷ codes "bytes"
    ∷ codes "uint32" ∷ codes "sfixed32" ∷ codes "sfixed64" ∷ codes "sint32" ∷ codes "sint64" ∷ []

-- `is_one_of names name` is that `name` is one of `names`
abbrev pub is_one_of : List (List ℕ) → List ℕ → Bool
is_one_of [] name = false
is_one_of (x ∷ xs) name = bytes_eq x name || is_one_of xs name

-- `type_reference number within name` is the reference of a field's type, unless that is a scalar
abbrev pub type_reference : ℕ → List ℕ → List ℕ → List Reference
type_reference number within name =
    cond (is_one_of scalars name) []
    (record { item = number; part = parts.Type; within = within; name = name } ∷ [])

-- `references_by within number statement` lists the references of the item of the number `number`
-- with the statement `statement`, in text order. The types of a method are never scalars; the type
-- of an extend block is not resolved.
abbrev pub references_by : List ℕ → ℕ → Statement → List Reference
references_by within number (Field label kind name field options) = type_reference number within kind.text
references_by within number (MapField key value name field options) = type_reference number within value.text
references_by within number (Method name input output) =
    record { item = number; part = parts.Input; within = within; name = input.type_name.text }
    ∷ record { item = number; part = parts.Output; within = within; name = output.type_name.text } ∷ []
references_by within number _ = []

-- `references_at root place` lists the references of the item at `place` in a file of the package
-- `root`
abbrev pub references_at : List ℕ → Place → List Reference
references_at root p = references_by (scope_in root p.within) p.item.number p.item.node.statement

-- `references_of nodes` lists the type references of a file with the statements `nodes`, in text
-- order
abbrev pub references_of : List Node → List Reference
references_of nodes = flat_map (references_at (package_of nodes)) (places nodes)
