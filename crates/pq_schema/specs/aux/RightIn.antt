-- Auxiliary: names right in a package, whose name is given with a dot after it.
use Rattle.std.specs.Prelude.{◌≡◌, ◌≢◌, ℕ, ◌<◌, List, get_or, length}
use Rattle.pq_schema.specs.Definitions.{qualified}
use Rattle.pq_schema.specs.aux.InPackage.{dotted}
use Rattle.pq_schema.specs.aux.NameParts.{leading}

-- `IsRoot scope root` is that `scope` is what is before a simple name in the package whose name
-- with a dot is `root`
abbrev pub IsRoot : List ℕ → List ℕ → Type 0
IsRoot scope root = (p : List ℕ) → root ≡ dotted p → scope ≡ leading p

-- `IsRightIn name root` is that `name` is the full name of a name without a dot in the package whose
-- name with a dot is `root`
abbrev pub IsRightIn : List ℕ → List ℕ → Type 0
IsRightIn name root = (p : List ℕ) → root ≡ dotted p
    → (simple : List ℕ) × ((i : ℕ) → i < length simple → get_or simple i 0 ≢ 46) × (name ≡ qualified p simple)
