-- Worked rows of the definitions.
use Rattle.std.specs.Prelude.{◌≡◌, ℕ, List, [], ◌∷◌, map, None, Some, codes, false, refl}
use Rattle.pq_syntax.specs.declared.tree.Node.{Node}
use Rattle.pq_syntax.specs.declared.tree.Statement.{Statement}
use Rattle.pq_syntax.specs.declared.tree.Statement.TheVariants as statements
use Rattle.pq_syntax.specs.declared.parts.Name.{Name}
use Rattle.pq_syntax.specs.declared.parts.Number.{Number}
use Rattle.pq_syntax.specs.declared.parts.MethodType.{MethodType}
use Rattle.pq_syntax.specs.Places.{enclosing, places_after, kept}
use Rattle.pq_schema.specs.Definitions.{package_of, camel, entry_name, defs_of}
use Rattle.pq_schema.specs.References.{references_of}
use Rattle.pq_schema.specs.declared.define.definitions.Definition.{Definition}
use Rattle.pq_schema.specs.declared.search.references.Reference.{Reference}

-- the names of entries
pub entry_names : map entry_name (codes "foo_bar" ∷ codes "_1a" ∷ codes "a_1b" ∷ [])
    ≡ codes "FooBarEntry" ∷ codes "1AEntry" ∷ codes "A1bEntry" ∷ []
unfolding camel
entry_names = refl

-- package p; message M { enum E { A = 0; } oneof o { int32 f = 1; } map<string, N> foo_bar = 2;
-- message N {} } service S { rpc R (M) returns (.p.M); }
abbrev name : List ℕ → Name
name text = record { text = text; span = record { start = 0; end = 0 } }

abbrev node : ℕ → Statement → Node
node depth s = record { depth = depth; span = record { start = 0; end = 0 }; statement = s }

abbrev one : Number
one = record { negative = false; value = Some 1; span = record { start = 0; end = 0 } }

abbrev takes : List ℕ → MethodType
takes type_name = record { is_stream = false; type_name = name type_name }

abbrev nested : List Node
nested =
    node 0 (statements.Package (name (codes "p"))) ∷ node 0 (statements.Message (name (codes "M")))
    ∷ node 1 (statements.Enum (name (codes "E"))) ∷ node 2 (statements.Value (name (codes "A")) one [])
    ∷ node 1 (statements.Oneof (name (codes "o")))
    ∷ node 2 (statements.Field None (name (codes "int32")) (name (codes "f")) one [])
    ∷ node 1 (statements.MapField (name (codes "string")) (name (codes "N")) (name (codes "foo_bar")) one [])
    ∷ node 1 (statements.Message (name (codes "N"))) ∷ node 0 (statements.Service (name (codes "S")))
    ∷ node 1 (statements.Method (name (codes "R")) (takes (codes "M")) (takes (codes ".p.M"))) ∷ []

-- the value A is defined in the scope that holds its enum
pub full_names : map (λ (d : Definition). d.full_name) (defs_of nested).definitions
    ≡ codes "p.M" ∷ codes "p.M.E" ∷ codes "p.M.A" ∷ codes "p.M.o" ∷ codes "p.M.f" ∷ codes "p.M.foo_bar"
    ∷ codes "p.M.FooBarEntry" ∷ codes "p.M.N" ∷ codes "p.S" ∷ codes "p.S.R" ∷ []
unfolding enclosing places_after kept package_of camel
full_names = refl

-- the items of the definitions; an entry has that of its field
pub items : map (λ (d : Definition). d.item) (defs_of nested).definitions ≡ 1 ∷ 2 ∷ 3 ∷ 4 ∷ 5 ∷ 6 ∷ 6 ∷ 7 ∷ 8 ∷ 9 ∷ []
unfolding enclosing places_after kept package_of camel
items = refl

-- scalars are not references; a map field's reference is its value type
pub reference_names : map (λ (r : Reference). r.name) (references_of nested) ≡ codes "N" ∷ codes "M" ∷ codes ".p.M" ∷ []
unfolding enclosing places_after kept package_of
reference_names = refl

pub reference_scopes : map (λ (r : Reference). r.within) (references_of nested) ≡ codes "p.M" ∷ codes "p.S" ∷ codes "p.S" ∷ []
unfolding enclosing places_after kept package_of
reference_scopes = refl
