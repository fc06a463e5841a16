-- Auxiliary: names that begin with the same bytes (used by proofs, invariants and contracts of
-- private functions only).
use Rattle.std.specs.Prelude.{◌≡◌, ℕ, ◌+◌, ◌<◌, ◌≤◌, Bool, true, false, get_or, length, slice_get, take, List, [], ◌++◌, None, Some}
use Rattle.std.specs.Ordering.{is_lt}
use Rattle.pq_rules.specs.Relations.{Each}
use Rattle.pq_schema.specs.declared.scope.scope.FileDefs.{FileDefs}
use Rattle.pq_schema.specs.declared.define.definitions.Definition.{Definition}
use Rattle.pq_schema.specs.aux.FirstOf.{answer_at, definition_in}
use Rattle.pq_schema.specs.aux.NameCodes.{code_order}
use Rattle.pq_schema.specs.aux.NameParts.{leading}

-- `IsCommonEnd a b x y` is that `a` is `x` and `b` is `y` with the same bytes after them, at least one
abbrev pub IsCommonEnd : List ℕ → List ℕ → List ℕ → List ℕ → Type 0
IsCommonEnd a b x y = (end : List ℕ) × ((0 < length end) × ((a ≡ x ++ end) × (b ≡ y ++ end)))

-- `Begins front name` is that `name` begins with `front`
abbrev pub Begins : List ℕ → List ℕ → Type 0
Begins front name = (rest : List ℕ) × (name ≡ front ++ rest)

-- `AreAlike n name entries` is that the names of `entries` begin with the first `n` bytes of `name`
abbrev pub AreAlike : ℕ → List ℕ → List (List ℕ × ℕ) → Type 0
AreAlike n name entries = (k : ℕ) → k < length entries → take n (get_or entries k ([], 0)).0 ≡ take n name

-- `BeginAlike n name ds` is that the full names of the definitions `ds` begin with the first `n`
-- bytes of `name`
abbrev pub BeginAlike : ℕ → List ℕ → List Definition → Type 0
BeginAlike n name ds = Each (λ (d : Definition). take n d.full_name ≡ take n name) ds

-- `BothBegin n a b` is that `a` and `b` begin with the same `n` bytes
abbrev pub BothBegin : ℕ → List ℕ → List ℕ → Type 0
BothBegin n a b = (front : List ℕ) × (length front ≡ n) × Begins front a × Begins front b

-- `CountsAt n files k root` is that what is before a simple name in the package `root` and the package
-- of the file at the place `k` begin with the same `n` bytes
abbrev pub CountsAt : ℕ → List FileDefs → ℕ → List ℕ → Type 0
CountsAt n files k root = (f : FileDefs) → slice_get files k ≡ Some f → BothBegin n (leading root) f.defs.package_name

-- `DiffersAt n a b` is that `a` and `b` have another byte at `n`
abbrev pub DiffersAt : ℕ → List ℕ → List ℕ → Type 0
DiffersAt n a b = (n < length a) × (n < length b) × (get_or a n 0 ≡ get_or b n 0 → ⊥)

-- `LeavesAt n files k root` is that the package of the file at the place `k` has another byte at `n` than
-- what is before a simple name in `root`
abbrev pub LeavesAt : ℕ → List FileDefs → ℕ → List ℕ → Type 0
LeavesAt n files k root = (f : FileDefs) → slice_get files k ≡ Some f → DiffersAt n (leading root) f.defs.package_name

-- `AreFronts fronts files root` is that `fronts` has of the file at each place a number of bytes that its
-- package and what is before a simple name in `root` begin with, and whether these then differ. Where
-- `fronts` has nothing, that counts as 0.
abbrev pub AreFronts : List (ℕ × Bool) → List FileDefs → List ℕ → Type 0
AreFronts fronts files root = (k : ℕ) → CountsAt (get_or fronts k (0, false)).0 files k root
    × ((get_or fronts k (0, false)).1 ≡ true → LeavesAt (get_or fronts k (0, false)).0 files k root)

-- `Guides fronts start files name` is that `fronts` serves to look up `name`, of which the first `start`
-- bytes go along its way: the names of each file begin with as many of these bytes as `fronts` has, and
-- a file whose package leaves the way within them does not define `name`
pub record Guides (fronts : List (ℕ × Bool)) (start : ℕ) (files : List FileDefs) (name : List ℕ) : Type 0 where
  pub alike : (k n : ℕ) → n ≤ (get_or fronts k (0, false)).0 → n ≤ start → (f : FileDefs) → slice_get files k ≡ Some f
      → BeginAlike n name f.defs.definitions
  pub apart : (k : ℕ) → (get_or fronts k (0, false)).1 ≡ true → (get_or fronts k (0, false)).0 < start
      → answer_at (definition_in name) files k ≡ None

-- `IsParted entries name low high` is that the names of `entries` before `low` come before `name`,
-- and those from `high` on do not
pub record IsParted (entries : List (List ℕ × ℕ)) (name : List ℕ) (low high : ℕ) : Type 0 where
  pub up : low ≤ high
  pub within : high ≤ length entries
  pub less : (k : ℕ) → k < low → is_lt (code_order (get_or entries k ([], 0)).0 name) ≡ true
  pub others : (k : ℕ) → high ≤ k → k < length entries → is_lt (code_order (get_or entries k ([], 0)).0 name) ≡ false

-- `IsMet entries name first seen` is that `seen` is `first` if the entry `first` of `entries` has the
-- name `name`
abbrev pub IsMet : List (List ℕ × ℕ) → List ℕ → ℕ → ℕ → Type 0
IsMet entries name first seen = first < length entries → (get_or entries first ([], 0)).0 ≡ name → seen ≡ first

-- `IsSeen entries name k` is that the entry `k` of `entries`, if there is one, has the name `name`
abbrev pub IsSeen : List (List ℕ × ℕ) → List ℕ → ℕ → Type 0
IsSeen entries name k = k < length entries → (get_or entries k ([], 0)).0 ≡ name

-- `IsSpotOf root spot` is that what is before a simple name in the package `root` begins with `spot`
abbrev pub IsSpotOf : List ℕ → List ℕ → Type 0
IsSpotOf root spot = Begins spot (leading root)

-- `AreSameEnds n left a b x y` is that `a` is `x` and `b` is `y` with the same bytes after them, and
-- that `n` is the number of these bytes and `left`
pub record AreSameEnds (n left : ℕ) (a b x y : List ℕ) : Type 0 where
  pub end : List ℕ
  pub count : length end + left ≡ n
  pub first : a ≡ x ++ end
  pub second : b ≡ y ++ end

-- `EndAlike n a b` is that `a` and `b` end in the same `n` bytes
pub record EndAlike (n : ℕ) (a b : List ℕ) : Type 0 where
  pub before : List ℕ
  pub others : List ℕ
  pub ends : AreSameEnds n 0 a b before others
