-- Auxiliary: a map from numbers to values whose numbers rise, in places of which some are vacant.
use Rattle.std.specs.Prelude.{ℕ, ◌≡◌, ◌+◌, ◌<◌, Bool, cond, eqb, List, [], ◌∷◌, map, slice_get, Option, Some, None, is_some}
use Rattle.pq_core.specs.Moves.{one_if}
use Rattle.pq_core.specs.declared.store.rising.Place.{Place}

-- `Slots T` is what contracts see of such a map: its places, and how many values more it has room
-- for
pub record Slots (T : Type 0) : Type 0 where
  pub items : List (Place T)
  pub room : ℕ

-- `found items n` is the value of the number `n`
unfoldable pub found : {T : Type 0} → List (Place T) → ℕ → Option T
found [] n = None
found (p ∷ items) n = cond (eqb p.number n) p.value (found items n)

-- `numbers items` is the numbers of all places, vacant ones among them
abbrev pub numbers : {T : Type 0} → List (Place T) → List ℕ
numbers items = map (λ p. p.number) items

-- `IsVacant items n` is that a place is kept for the number `n`, which has no value
pub record IsVacant {T : Type 0} (items : List (Place T)) (n : ℕ) : Type 0 where
  pub at : ℕ
  pub here : slice_get items at ≡ Some (record { number = n; value = None })

-- `IsAbove n items` is that `n` is above the number of each place
unfoldable pub IsAbove : {T : Type 0} → ℕ → List (Place T) → Type 0
IsAbove n [] = Unit {0}
IsAbove n (p ∷ items) = (p.number < n) × IsAbove n items

-- `IsBelow n items` is that `n` is below the number of each place
unfoldable pub IsBelow : {T : Type 0} → ℕ → List (Place T) → Type 0
IsBelow n [] = Unit {0}
IsBelow n (p ∷ items) = (n < p.number) × IsBelow n items

-- `Rises items` is that the numbers of the places rise
unfoldable pub Rises : {T : Type 0} → List (Place T) → Type 0
Rises [] = Unit {0}
Rises (p ∷ items) = IsBelow p.number items × Rises items

-- `has_value p` is that the place `p` has a value
abbrev pub has_value : {T : Type 0} → Place T → Bool
has_value p = is_some p.value

-- `live_count items` is the number of values
unfoldable pub live_count : {T : Type 0} → List (Place T) → ℕ
live_count [] = 0
live_count (p ∷ items) = one_if (has_value p) + live_count items

-- `IsKept items live` is what a map of `live` values keeps
pub record IsKept {T : Type 0} (items : List (Place T)) (live : ℕ) : Type 0 where
  pub rises : Rises items
  pub counted : live ≡ live_count items

-- `SameFound items left` is that `left` has the values of `items`, and no number that is not in
-- `items`
pub record SameFound {T : Type 0} (items left : List (Place T)) : Type 0 where
  pub same : (n : ℕ) → found left n ≡ found items n
  pub above : (n : ℕ) → IsAbove n items → IsAbove n left

-- `Compacts items left` is that `left` is `items`, or what is left of it without vacant places
pub record Compacts {T : Type 0} (items left : List (Place T)) : Type 0 where
  pub rises : Rises left
  pub same : SameFound items left
  pub counted : live_count left ≡ live_count items

-- `NoneOf Holds items n` is that `Holds` holds of no value in the first `n` places of `items`
abbrev pub NoneOf : {T : Type 0} → (T → Type 0) → List (Place T) → ℕ → Type 0
NoneOf {T} Holds items n = (j : ℕ) (p : Place T) (value : T) → j < n → slice_get items j ≡ Some p → p.value ≡ Some value → Holds value → ⊥
