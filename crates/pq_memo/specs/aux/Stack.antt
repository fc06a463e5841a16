-- Auxiliary: the places of the keys of a stack.
use Rattle.std.specs.Prelude.{ℕ, zero, suc, ◌≡◌, ◌<◌, ◌≤◌, List, [], ◌∷◌, length, Option, Some, None}
use Rattle.std.specs.Map.{lookup}
use Rattle.std.specs.BTreeMap.{is_at}
use Rattle.std.specs.declared.cmp.Ordering.{Ordering}

-- `place_in order places k` is the place that `places` has of `k`
abbrev pub place_in : {K : Type 0} → (K → K → Ordering) → List (K × ℕ) → K → Option ℕ
place_in order places k = lookup (is_at (order k)) places

-- `IsNoted order before k place after` is that `after` has `place` as that of `k`, and of every
-- other key the place of `before`
pub record IsNoted {K : Type 0} (order : K → K → Ordering) (before : List (K × ℕ)) (k : K) (place : ℕ) (after : List (K × ℕ)) : Type 0 where
  pub here : place_in order after k ≡ Some place
  pub others : (q : K) → (q ≡ k → ⊥) → place_in order after q ≡ place_in order before q

-- `nth ks i` is the key `i` of `ks`, if there is one
abbrev pub nth : {K : Type 0} → List K → ℕ → Option K
nth [] i = None
nth (k ∷ ks) zero = Some k
nth (k ∷ ks) (suc i) = nth ks i

-- `IsMapped order places mapped ks` is that `places` has the places of the first `mapped` of `ks`,
-- and that no key is in `ks` twice
pub record IsMapped {K : Type 0} (order : K → K → Ordering) (places : List (K × ℕ)) (mapped : ℕ) (ks : List K) : Type 0 where
  pub within : mapped ≤ length ks
  pub indexed : (i : ℕ) (k : K) → i < mapped → nth ks i ≡ Some k → place_in order places k ≡ Some i
  pub distinct : (i j : ℕ) (k : K) → nth ks i ≡ Some k → nth ks j ≡ Some k → i ≡ j
