-- Auxiliary: the full name of each definition begins with its file's package, and packages with a
-- dot after them.
use Rattle.std.specs.Prelude.{◌≡◌, ℕ, ◌⊎◌, List, [], ◌++◌, codes}
use Rattle.pq_rules.specs.Relations.{Each}
use Rattle.pq_schema.specs.declared.define.definitions.Definition.{Definition}

-- `dotted name` is `name` with a dot after it
abbrev pub dotted : List ℕ → List ℕ
dotted name = name ++ codes "."

-- `Below root name` is that the package `root` is empty, or that `name` is `root`, a dot and more
abbrev pub Below : List ℕ → List ℕ → Type 0
Below root name = (root ≡ []) ⊎ ((rest : List ℕ) × (name ≡ root ++ codes "." ++ rest))

-- `AllBelow root ds` is that the full name of each of the definitions `ds` is below the package
-- `root`
abbrev pub AllBelow : List ℕ → List Definition → Type 0
AllBelow root ds = Each (λ (d : Definition). Below root d.full_name) ds
