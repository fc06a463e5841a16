-- Auxiliary: changes of one value of a map from numbers.
use Rattle.std.specs.Prelude.{ℕ, ◌≡◌, ◌==◌, ◌≤◌, if◌then◌else◌, Option}
use Rattle.pq_core.specs.aux.Rising.{Slots, found, IsAbove}

-- `IsSetAt before after n value` is that `after` has `value` for the number `n`, and for others
-- what `before` has; it has no less room
pub record IsSetAt {T : Type 0} (before after : Slots T) (n : ℕ) (value : Option T) : Type 0 where
  pub found : (k : ℕ) → found after.items k ≡ (if k == n then value else found before.items k)
  pub above : (m : ℕ) → IsAbove m before.items → IsAbove m after.items
  pub room : before.room ≤ after.room

-- `IsSameMap before after` is that `after` has what `before` has, and no less room
pub record IsSameMap {T : Type 0} (before after : Slots T) : Type 0 where
  pub found : (k : ℕ) → found after.items k ≡ found before.items k
  pub above : (m : ℕ) → IsAbove m before.items → IsAbove m after.items
  pub room : before.room ≤ after.room
