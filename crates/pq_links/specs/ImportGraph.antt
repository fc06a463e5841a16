-- The import graph (proto3 language specification, "Import Statement"): which files are bad, and
-- into which ring of imports a bad one leads.
--
-- A walk goes from a file to a file that it imports, and so on. A file is bad if walks of every
-- length start at it, and good if its walks are shorter than some bound. So neither is defined as
-- the negation of the other.
use Rattle.std.specs.Prelude.{ℕ, zero, suc, ◌≡◌, List, [], ◌∷◌, ◌++◌, map, Option, unwrap_or}
use Rattle.std.specs.Cmp.Lexicographic.{slice_cmp}
use Rattle.std.specs.Ordering.{nat_cmp}
use Rattle.pq_rules.specs.Relations.{Each, In, IsRing, LeadsInto}
use Rattle.pq_links.specs.declared.links.Import.{Import}

-- A `Graph` has the imports of each present file, and `None` for an absent one.
abbrev pub Graph : Type 0
Graph = List ℕ → Option (List Import)

-- `file_of i` is the name of the file that `i` imports
abbrev pub file_of : Import → List ℕ
file_of i = i.file

-- `imported g f` is the names of the files that `f` imports, in order
abbrev pub imported : Graph → List ℕ → List (List ℕ)
imported g f = map file_of (unwrap_or (g f) [])

-- `Walks g n f` is a walk of `n` steps that starts at the file `f`
unfoldable pub Walks : Graph → ℕ → List ℕ → Type 0
Walks g zero f = Unit {0}
Walks g (suc n) f = (h : List ℕ) × In h (imported g f) × Walks g n h

-- `EndsWithin g n f` is that each walk that starts at the file `f` has fewer than `n` steps
unfoldable pub EndsWithin : Graph → ℕ → List ℕ → Type 0
EndsWithin g zero f = ⊥
EndsWithin g (suc n) f = Each (EndsWithin g n) (imported g f)

-- `IsBad g f` is that walks of every length start at the file `f`
abbrev pub IsBad : Graph → List ℕ → Type 0
IsBad g f = (n : ℕ) → Walks g n f

-- `IsGood g f` is that the walks that start at the file `f` have a bound
abbrev pub IsGood : Graph → List ℕ → Type 0
IsGood g f = (n : ℕ) × EndsWithin g n f

-- `IsNext g f h` is that `h` is the first bad file among the files that `f` imports: those before
-- it are good
abbrev pub IsNext : Graph → List ℕ → List ℕ → Type 0
IsNext g f h = (before : List (List ℕ)) × (after : List (List ℕ)) × (imported g f ≡ before ++ h ∷ after) × Each (IsGood g) before × IsBad g h

-- `IsRingOf g f ring` is that `ring` is the ring of next files into which the file `f` leads, from
-- its least name on in the order of bytes
abbrev pub IsRingOf : Graph → List ℕ → List (List ℕ) → Type 0
IsRingOf g f ring = IsRing (slice_cmp nat_cmp) (IsNext g) ring × LeadsInto (IsNext g) f ring
