-- Auxiliary: the numbers of texts in the order of the texts, the invariant of a table of names
-- (used by proofs and invariants only).
use Rattle.std.specs.Prelude.{◌≡◌, ℕ, ◌<◌, ◌≤◌, List, [], length, get_or}
use Rattle.std.specs.declared.cmp.Ordering.{Ordering}
use Rattle.std.specs.declared.cmp.Ordering.TheVariants.{Less, Greater}
use Rattle.std.specs.Cmp.Lexicographic.{slice_cmp}
use Rattle.std.specs.Ordering.{nat_cmp}

-- `against order texts k text` is the comparison of the text whose number `order` has at the place
-- `k` with `text`
abbrev pub against : List ℕ → List (List ℕ) → ℕ → List ℕ → Ordering
against order texts k text = slice_cmp nat_cmp (get_or texts (get_or order k 0) []) text

-- `IsOrderOf order texts` says that `order` lists the place of each of `texts`, and that the texts
-- rise along it, so each is there once
pub record IsOrderOf (order : List ℕ) (texts : List (List ℕ)) : Type 0 where
  pub within : (k : ℕ) → k < length order → get_or order k 0 < length texts
  pub rises : (k l : ℕ) → k < l → l < length order
      → against order texts k (get_or texts (get_or order l 0) []) ≡ Less
  pub listed : (id : ℕ) → id < length texts → (k : ℕ) × (k < length order) × (get_or order k 0 ≡ id)

-- `IsGap order texts text place` says that the texts before `place` in `order` are less than
-- `text`, and the others greater
pub record IsGap (order : List ℕ) (texts : List (List ℕ)) (text : List ℕ) (place : ℕ) : Type 0 where
  pub inside : place ≤ length order
  pub before : (k : ℕ) → k < place → against order texts k text ≡ Less
  pub after : (k : ℕ) → place ≤ k → k < length order → against order texts k text ≡ Greater
