-- Auxiliary: the packages of a list of files, the invariant of `Files` (used by proofs and
-- invariants only).
use Rattle.std.specs.Prelude.{◌≡◌, ℕ, suc, true, bytes_eq, find, slice_get, List, [], ◌∷◌, ◌++◌, Option, Some}
use Rattle.std.specs.List.Sorted.{IsPermutation, IsSorted}
use Rattle.std.specs.declared.cmp.Ordering.{Ordering}
use Rattle.std.specs.Cmp.Lexicographic.{slice_cmp}
use Rattle.std.specs.Ordering.{nat_cmp, ordering_then}
use Rattle.pq_rules.specs.Relations.{Each, In}
use Rattle.pq_schema.specs.declared.scope.scope.FileDefs.{FileDefs}
use Rattle.pq_schema.specs.declared.define.definitions.Definition.{Definition}
use Rattle.pq_schema.specs.Resolution.{prefixes}
use Rattle.pq_schema.specs.aux.InPackage.{AllBelow, dotted}
use Rattle.pq_schema.specs.aux.Scopes.{is_among}

-- `find_in f name` is the first definition of the file `f` with the full name `name`
abbrev pub find_in : FileDefs → List ℕ → Option Definition
find_in f name = find (λ (d : Definition). bytes_eq d.full_name name) f.defs.definitions

-- `IsBelow f` is that the file `f` has its definitions below its package
abbrev pub IsBelow : FileDefs → Type 0
IsBelow f = AllBelow f.defs.package_name f.defs.definitions

-- `root_order a b` compares the entries `a` and `b`: first their packages, then their places
abbrev pub root_order : List ℕ × ℕ → List ℕ × ℕ → Ordering
root_order a b = ordering_then (slice_cmp nat_cmp a.0 b.0) (nat_cmp a.1 b.1)

-- `roots n files` lists the packages of `files` with a dot after each, each with the place of its
-- file, where the first has the place `n`
unfoldable pub roots : ℕ → List FileDefs → List (List ℕ × ℕ)
roots n [] = []
roots n (f ∷ fs) = (dotted f.defs.package_name, n) ∷ roots (suc n) fs

-- `IsIndex index files` is that `index` has the packages of `files`, sorted
pub record IsIndex (index : List (List ℕ × ℕ)) (files : List FileDefs) : Type 0 where
  pub same : IsPermutation (roots 0 files) index
  pub sorted : IsSorted root_order index
  pub below : Each IsBelow files

-- `around name` lists the packages that a file with the full name `name` can have: the prefixes of
-- the name before its dots, and the empty package
abbrev pub around : List ℕ → List (List ℕ)
around name = prefixes name ++ [] ∷ []

-- `AreNear near files roots` is that `near` has the place of each of `files` whose package is one of
-- `roots`, and that the places rise
pub record AreNear (near : List ℕ) (files : List FileDefs) (roots : List (List ℕ)) : Type 0 where
  pub rising : IsSorted nat_cmp near
  pub all : (k : ℕ) (f : FileDefs) → slice_get files k ≡ Some f → is_among f.defs.package_name roots ≡ true → In k near
