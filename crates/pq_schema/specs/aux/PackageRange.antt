-- Auxiliary: the packages inside a scope (used by proofs, invariants and contracts of private
-- functions only).
use Rattle.std.specs.Prelude.{◌≡◌, ℕ, ◌<◌, ◌≤◌, Bool, true, false, drop, get_or, length, nat_eq, take, List, [], ◌++◌, Option, Some, None}
use Rattle.std.specs.Cmp.Lexicographic.{slice_cmp}
use Rattle.std.specs.List.{list_any, starts_with}
use Rattle.std.specs.List.Sorted.{IsSorted}
use Rattle.std.specs.Ordering.{is_lt, nat_cmp}
use Rattle.pq_rules.specs.Relations.{Each}
use Rattle.pq_schema.specs.declared.scope.package_range.PackageRange.{PackageRange}
use Rattle.pq_schema.specs.declared.scope.scope.FileDefs.{FileDefs}
use Rattle.pq_schema.specs.Resolution.{is_package}
use Rattle.pq_schema.specs.aux.Fronts.{Begins}
use Rattle.pq_schema.specs.aux.Grouping.{root_order}
use Rattle.pq_schema.specs.aux.InPackage.{dotted}

-- `begins_after n part e` is that the entry `e` has `part` after its first `n` bytes
abbrev pub begins_after : ℕ → List ℕ → List ℕ × ℕ → Bool
begins_after n part e = starts_with nat_eq (drop n e.0) part

-- `IsRange files lead r` is that `r` has the packages of `files` that begin with `lead`, sorted, and
-- knows how many bytes that are if there are such packages. So a name after `lead` is a package if one
-- of these begins with it and a dot.
pub record IsRange (files : List FileDefs) (lead : List ℕ) (r : PackageRange) : Type 0 where
  pub count : 0 < length r.entries.now → r.count ≡ length lead
  pub sorted : IsSorted root_order r.entries.now
  pub begin : (k : ℕ) → k < length r.entries.now → Begins lead (get_or r.entries.now k ([], 0)).0
  pub is : (n : List ℕ) → 0 < length (lead ++ n)
      → list_any (λ (e : List ℕ × ℕ). starts_with nat_eq e.0 (dotted (lead ++ n))) r.entries.now ≡ is_package files (lead ++ n)

-- `AreRanges files lead rs` is that each of `rs` has a number of bytes, and the packages of `files` that
-- begin with so many bytes of `lead`
abbrev pub AreRanges : List FileDefs → List ℕ → List (ℕ × PackageRange) → Type 0
AreRanges files lead rs = Each (λ (r : ℕ × PackageRange). IsRange files (take r.0 lead) r.1) rs

-- `IsFirstFrom entries name first` is that the entries before `first` come before `name`, and that the
-- others do not
pub record IsFirstFrom (entries : List (List ℕ × ℕ)) (name : List ℕ) (first : ℕ) : Type 0 where
  pub within : first ≤ length entries
  pub less : (k : ℕ) → k < first → is_lt (slice_cmp nat_cmp (get_or entries k ([], 0)).0 name) ≡ true
  pub others : (k : ℕ) → first ≤ k → k < length entries → is_lt (slice_cmp nat_cmp (get_or entries k ([], 0)).0 name) ≡ false

-- `IsRangeOf files o lead` is that `o`, if it is there, has the packages of `files` that begin with
-- `lead`
abbrev pub IsRangeOf : List FileDefs → Option PackageRange → List ℕ → Type 0
IsRangeOf files None lead = Unit {0}
IsRangeOf files (Some r) lead = IsRange files lead r
