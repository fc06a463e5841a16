-- Auxiliary: the index of the files at some places by the codes of the full names that they define
-- (used by proofs and contracts of private functions only).
use Rattle.std.specs.Prelude.{◌≡◌, ℕ, ◌⊎◌, ◌<◌, ◌≤◌, Bool, true, false, get_or, length, is_some, List, [], ◌∷◌, Option, Some, None, Vec}
use Rattle.std.specs.declared.alloc.Global.{Global}
use Rattle.std.specs.List.Sorted.{IsSorted}
use Rattle.std.specs.declared.cmp.Ordering.{Ordering}
use Rattle.std.specs.Ordering.{nat_cmp, ordering_then}
use Rattle.pq_rules.specs.Relations.{Each, In}
use Rattle.pq_schema.specs.declared.scope.scope.FileDefs.{FileDefs}
use Rattle.pq_schema.specs.aux.FirstOf.{answer_at}
use Rattle.pq_schema.specs.aux.Grouping.{AreNear, find_in}
use Rattle.pq_schema.specs.aux.NameCodes.{code_of}

-- `Rises places` is that no place is after a greater one
abbrev pub Rises : List ℕ → Type 0
Rises [] = Unit {0}
Rises (k ∷ ks) = Each (λ j. k ≤ j) ks × Rises ks

-- `has files k name` is whether the file at the place `k` defines the full name `name`
abbrev pub has : List FileDefs → ℕ → List ℕ → Bool
has files k name = is_some (answer_at (λ (f : FileDefs). find_in f name) files k)

-- `named_order a b` compares the entries `a` and `b`: first their codes, then the places of their
-- files
abbrev pub named_order : ℕ × ℕ → ℕ × ℕ → Ordering
named_order a b = ordering_then (nat_cmp a.0 b.0) (nat_cmp a.1 b.1)

-- `AddsEntries old new index k` is that `new` has the entries of `old`, and the codes of the names of
-- `index` with the place `k`
pub record AddsEntries (old new : List (ℕ × ℕ)) (index : List (List ℕ × ℕ)) (k : ℕ) : Type 0 where
  pub kept : (e : ℕ × ℕ) → In e old → In e new
  pub sound : (e : ℕ × ℕ) → In e new → In e old ⊎ (e.1 ≡ k)
  pub there : (name : List ℕ) (m : ℕ) → In (name, m) index → In (code_of name, k) new

-- `Adds old new files k` is that `new` has the entries of `old` and those of the file at `k`
pub record Adds (old new : List (ℕ × ℕ)) (files : List FileDefs) (k : ℕ) : Type 0 where
  pub kept : (e : ℕ × ℕ) → In e old → In e new
  pub sound : (e : ℕ × ℕ) → In e new → In e old ⊎ (e.1 ≡ k)
  pub there : (name : List ℕ) → has files k name ≡ true → In (code_of name, k) new

-- `IsNamesOf names files places` is that `names` has the code of each name that a file at one of
-- `places` defines, with the place of the file, sorted, and no other places
pub record IsNamesOf (names : List (ℕ × ℕ)) (files : List FileDefs) (places : List ℕ) : Type 0 where
  pub sound : (e : ℕ × ℕ) → In e names → In e.1 places
  pub all : (k : ℕ) (name : List ℕ) → In k places → has files k name ≡ true → In (code_of name, k) names
  pub sorted : IsSorted named_order names

-- `IsFrom names code p` is that the entries of `names` before `p` have codes below `code`, and that the
-- others do not
pub record IsFrom (names : List (ℕ × ℕ)) (code p : ℕ) : Type 0 where
  pub less : (m : ℕ) → m < p → (get_or names m (0, 0)).0 < code
  pub others : (m : ℕ) → p ≤ m → m < length names → code ≤ (get_or names m (0, 0)).0

-- `IsFirst place files places name` is that `place` is the least of `places` whose file defines
-- `name`, if there is one
abbrev pub IsFirst : Option ℕ → List FileDefs → List ℕ → List ℕ → Type 0
IsFirst None files places name = (j : ℕ) → In j places → has files j name ≡ false
IsFirst (Some k) files places name =
    In k places × (has files k name ≡ true) × ((j : ℕ) → In j places → j < k → has files j name ≡ false)

-- `AreNames names files places` is that `names`, if it is there, has the names that the files at
-- `places` define
abbrev pub AreNames : Option (Vec (ℕ × ℕ) Global) → List FileDefs → List ℕ → Type 0
AreNames None files places = Unit {0}
AreNames (Some names) files places = IsNamesOf names.items files places

-- `HasAll names places files` is that `places`, if the index `names` is there, has the place of each
-- of `files` in order
abbrev pub HasAll : Option (Vec (ℕ × ℕ) Global) → List ℕ → List FileDefs → Type 0
HasAll None places files = Unit {0}
HasAll (Some names) places files = (roots : List (List ℕ)) → AreNear places files roots
