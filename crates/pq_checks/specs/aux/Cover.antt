-- Auxiliary: ranges, and the values that they cover (used by proofs and invariants only).
use Rattle.std.specs.Prelude.{◌≡◌, ℕ, ◌<◌, ◌≤◌, Bool, true, List, [], ◌∷◌, ◌&&◌, length, get_or, if◌then◌else◌}
use Rattle.std.specs.List.{list_any}
use Rattle.std.specs.Ordering.{is_le}
use Rattle.std.specs.declared.cmp.Ordering.{Ordering}

module _ {X : Type 0} (cmp : X → X → Ordering) where
  -- `is_at_most x y` is that `x` is not greater than `y`
  abbrev pub is_at_most : X → X → Bool
  is_at_most x y = is_le (cmp x y)

  -- `is_within x r` is that `x` lies within the range `r`, both ends included
  abbrev pub is_within : X → X × X → Bool
  is_within x r = is_at_most r.0 x && is_at_most x r.1

  -- `is_covered ranges x` is that `x` lies within one of `ranges`
  abbrev pub is_covered : List (X × X) → X → Bool
  is_covered ranges x = list_any (is_within x) ranges

  -- `higher t u` is the greater of `t` and `u`
  abbrev pub higher : X → X → X
  higher t u = if is_at_most t u then u else t

  -- `raise t rs` is `rs`, each last value raised to the greatest of `t` and the last values up to
  -- it
  unfoldable pub raise : X → List (X × X) → List (X × X)
  raise t [] = []
  raise t (r ∷ rs) = (r.0, higher t r.1) ∷ raise (higher t r.1) rs

  -- `raised rs` is `rs`, each last value raised to the greatest of those up to it
  unfoldable pub raised : List (X × X) → List (X × X)
  raised [] = []
  raised (r ∷ rs) = r ∷ raise r.1 rs

  -- `Climbs rs` is that neither the first values of `rs` nor the last ones fall
  abbrev pub Climbs : List (X × X) → Type 0
  Climbs rs = (i j : ℕ) (d : X × X) → i ≤ j → j < length rs
      → (is_at_most (get_or rs i d).0 (get_or rs j d).0 ≡ true) × (is_at_most (get_or rs i d).1 (get_or rs j d).1 ≡ true)
