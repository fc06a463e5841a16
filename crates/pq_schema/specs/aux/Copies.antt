-- Auxiliary: which definitions of a file have the full name of an earlier one, by the numbers of
-- their scopes. The package has the number 0, and the definitions are counted from 1.
use Rattle.std.specs.Prelude.{◌≡◌, ℕ, suc, ◌<◌, Bool, true, false, get_or, length, map, slice_get, flat_map, List, [], ◌∷◌, ◌++◌, Some}
use Rattle.pq_rules.specs.Relations.{Each}
use Rattle.pq_syntax.specs.declared.tree.Node.{Node}
use Rattle.pq_syntax.specs.declared.tree.Statement.{Statement}
use Rattle.pq_syntax.specs.Places.{places}
use Rattle.pq_schema.specs.Definitions.{defined_at, defined_by, qualified, scope_of}
use Rattle.pq_schema.specs.declared.define.copies.Numbered.{Numbered}
use Rattle.pq_schema.specs.declared.define.copies.Numbering.{Numbering}
use Rattle.pq_schema.specs.declared.define.definitions.Definition.{Definition}

-- `full_names ds` lists the full names of the definitions `ds`
abbrev pub full_names : List Definition → List (List ℕ)
full_names ds = map (λ (d : Definition). d.full_name) ds

-- `At xs n x` is that `x` is at the place `n` of `xs`
abbrev pub At : {A : Type 0} → List A → ℕ → A → Type 0
At xs n x = slice_get xs n ≡ Some x

-- `IsCopy names n` is that what is at the place `n` of `names` is also at an earlier place
abbrev pub IsCopy : List (List ℕ) → ℕ → Type 0
IsCopy names n = (i : ℕ) × (i < n) × (name : List ℕ) × At names i name × At names n name

-- `AreCopies flags names` is that for each flag of `flags` that is `true` the name of its number is
-- a copy, where `names` are those of the definitions
abbrev pub AreCopies : List Bool → List (List ℕ) → Type 0
AreCopies flags names = (n : ℕ) → get_or flags (suc n) false ≡ true → IsCopy names n

-- `AreDefined ds nodes` is that a file with the statements `nodes` has the definitions `ds`, in
-- some package
abbrev pub AreDefined : List Definition → List Node → Type 0
AreDefined ds nodes = (root : List ℕ) × (ds ≡ flat_map (defined_at root) (places nodes))

-- `IsKnown root names scope own n` is that `n` is the number of one of `names`, which is `own` in
-- the scope of the number `scope`. `names` are those of the definitions in the package `root`.
abbrev pub IsKnown : List ℕ → List (List ℕ) → ℕ → List ℕ → ℕ → Type 0
IsKnown root names scope own n =
    (outer : List ℕ) × (i : ℕ) × At (root ∷ names) scope outer × (n ≡ suc i) × At names i (qualified outer own)

-- `IsNumbering root names numbering` is that `numbering` has the numbers of definitions with the
-- full names `names` in the package `root`
pub record IsNumbering (root : List ℕ) (names : List (List ℕ)) (numbering : Numbering) : Type 0 where
  pub count : length numbering.copies.items ≡ suc (length names)
  pub known : Each (λ (k : Numbered). IsKnown root names k.scope k.name k.number) numbering.names.items
  pub copies : AreCopies numbering.copies.items names

-- `Adds root names old new more number name` is that `new` has the numbers of `names` and `more`
-- where `old` has those of `names`, and that `number` is that of `name`
abbrev pub Adds : List ℕ → List (List ℕ) → Numbering → Numbering → List (List ℕ) → ℕ → List ℕ → Type 0
Adds root names old new more number name =
    IsNumbering root names old → IsNumbering root (names ++ more) new × At (root ∷ (names ++ more)) number name

-- `AddsName old new scope own number` is that `new` has one definition more than `old`, of the name
-- `own` in the scope of the number `scope`, and that `number` is that of a definition of its full
-- name
abbrev pub AddsName : Numbering → Numbering → ℕ → List ℕ → ℕ → Type 0
AddsName old new scope own number = (root : List ℕ) (names : List (List ℕ)) (outer : List ℕ) → At (root ∷ names) scope outer
    → Adds root names old new (qualified outer own ∷ []) number (qualified outer own)

-- `AddsWithin old new scope own number` is the same, where `number` is that of the scope
abbrev pub AddsWithin : Numbering → Numbering → ℕ → List ℕ → ℕ → Type 0
AddsWithin old new scope own number = (root : List ℕ) (names : List (List ℕ)) (outer : List ℕ) → At (root ∷ names) scope outer
    → Adds root names old new (qualified outer own ∷ []) number outer

-- `AddsAll old new scope statement number` is that `new` has what `statement` defines in the scope
-- of the number `scope` after what `old` has, and that `number` is that of the scope of what it
-- contains
abbrev pub AddsAll : Numbering → Numbering → ℕ → Statement → ℕ → Type 0
AddsAll old new scope statement number = (root : List ℕ) (names : List (List ℕ)) (outer : List ℕ) (item : ℕ) → At (root ∷ names) scope outer
    → Adds root names old new (full_names (defined_by outer item statement)) number (scope_of statement outer)
