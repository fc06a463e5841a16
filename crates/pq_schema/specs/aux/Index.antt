-- Auxiliary: the index of the definitions of a file by full name.
use Rattle.std.specs.Prelude.{◌≡◌, ℕ, ◌<◌, ◌≤◌, suc, Bool, true, false, cond, bytes_eq, get_or, length, take, Contains, List, [], ◌∷◌}
use Rattle.std.specs.List.Sorted.{IsSorted}
use Rattle.std.specs.declared.cmp.Ordering.{Ordering}
use Rattle.std.specs.Ordering.{is_lt, nat_cmp, ordering_then}
use Rattle.pq_schema.specs.aux.NameCodes.{code_order}
use Rattle.pq_schema.specs.declared.define.definitions.Definition.{Definition}
use Rattle.pq_schema.specs.Repeated.{is_repeated}

-- `entry_order a b` compares the entries `a` and `b`: first their names, then their places
abbrev pub entry_order : List ℕ × ℕ → List ℕ × ℕ → Ordering
entry_order a b = ordering_then (code_order a.0 b.0) (nat_cmp a.1 b.1)

-- `entries n ds` lists the full names of the definitions `ds`, each with its place, where the first
-- has the place `n`
unfoldable pub entries : ℕ → List Definition → List (List ℕ × ℕ)
entries n [] = []
entries n (d ∷ ds) = (d.full_name, n) ∷ entries (suc n) ds

-- `AreEntries index ds n` says that each entry of `index` is one of the definitions `ds`, and that
-- each of the first `n` of `ds` has an entry of its name at its place or before. A definition whose
-- name an earlier one has needs no entry of its own.
pub record AreEntries (index : List (List ℕ × ℕ)) (ds : List Definition) (n : ℕ) : Type 0 where
  pub sound : (e : List ℕ × ℕ) → Contains index e → Contains (entries 0 ds) e
  pub first : (name : List ℕ) (m : ℕ) → m < n → Contains (entries 0 ds) (name, m) → (j : ℕ) × (j ≤ m) × Contains index (name, j)

-- `IsIndexOf index ds` says that `index` has entries of the definitions `ds`, sorted
pub record IsIndexOf (index : List (List ℕ × ℕ)) (ds : List Definition) : Type 0 where
  pub are : AreEntries index ds (length ds)
  pub sorted : IsSorted entry_order index

-- `name_at index k` is the name of the entry `k` of `index`
abbrev pub name_at : List (List ℕ × ℕ) → ℕ → List ℕ
name_at index k = (get_or index k ([], 0)).0

-- `place_at index k` is the place of the entry `k` of `index`
abbrev pub place_at : List (List ℕ × ℕ) → ℕ → ℕ
place_at index k = (get_or index k ([], 0)).1

-- `group_start index first i` is `first` if the entries `first` and `i` of `index` have one name, and
-- else `i`
abbrev pub group_start : List (List ℕ × ℕ) → ℕ → ℕ → ℕ
group_start index first i = cond (bytes_eq (name_at index first) (name_at index i)) first i

-- `IsStart index first i` says that of the entries of `index` before `i` those from `first` on have
-- the name of the entry `first`, and those before it have names that come before it
pub record IsStart (index : List (List ℕ × ℕ)) (first i : ℕ) : Type 0 where
  pub up : first ≤ i
  pub less : (k : ℕ) → k < first → is_lt (code_order (name_at index k) (name_at index first)) ≡ true
  pub same : (k : ℕ) → first ≤ k → k < i → name_at index k ≡ name_at index first

-- `AreMarked index ds flags i` says that `flags` tells of each definition of `ds` with an entry of
-- `index` before `i` whether its name is repeated, and of each whose name is repeated that it is
pub record AreMarked (index : List (List ℕ × ℕ)) (ds : List Definition) (flags : List Bool) (i : ℕ) : Type 0 where
  pub count : length flags ≡ length ds
  pub marked : (k : ℕ) (d : Definition) → k < i
      → get_or flags (place_at index k) false ≡ is_repeated (get_or ds (place_at index k) d) (take (place_at index k) ds)
  pub copies : (n : ℕ) (d : Definition) → n < length ds → is_repeated (get_or ds n d) (take n ds) ≡ true → get_or flags n false ≡ true
