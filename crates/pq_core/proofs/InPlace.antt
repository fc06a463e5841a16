-- A value of a map from numbers is written in its place.
use Rattle.std.proofs.Common.{◌≡◌, ℕ, ◌<◌, ◌==◌, if◌then◌else◌, List, length, slice_get, slice_set, get_or, Option, Some, None, is_some, refl, sym, ◌∙◌, ap, arith}
use Rattle.pq_core.specs.Moves.{one_if}
use Rattle.pq_core.specs.declared.store.rising.Place.{Place}
use Rattle.pq_core.specs.aux.Rising.{Slots, found, IsAbove, IsKept}
use Rattle.pq_core.specs.aux.Changes.{IsSetAt, IsSameMap}
use Rattle.pq_core.proofs.Slots.{Written, written, by_number}

-- there is a value afterwards where there was one
as_many : {T : Type 0} (u w : Option T) → ((x : T) → u ≡ Some x → (y : T) × (w ≡ Some y)) → (u ≡ None → w ≡ None) → one_if (is_some w) ≡ one_if (is_some u)
as_many None w some none = ap (λ (o : Option _). one_if (is_some o)) (none refl)
as_many (Some x) w some none = (let y = some x refl in ap (λ (o : Option _). one_if (is_some o)) y.1)

-- what is set is what was there
pub set_same : {T : Type 0} (b a : Slots T) (n : ℕ) (value : Option T) → IsSetAt b a n value → found b.items n ≡ value → IsSameMap b a
set_same b a n value set was = record {
  found = λ k. set.found k ∙ sym (by_number k n (found b.items k) value (found b.items k) (λ e. ap (found b.items) e ∙ was) (λ _. refl));
  above = set.above;
  room = set.room;
}

-- the place of the number `n` was `q`, and has now the value `w`
module _ {T : Type 0} (xs : List (Place T)) (at n : ℕ) (q : Place T) (w : Option T) (live : ℕ) (kept : IsKept xs live) (lt : at < length xs) (is : q ≡ get_or xs at q)
    (numbered : (p : Place T) → slice_get xs at ≡ Some p → p.number ≡ n) where
  all : Written xs at q n w
  all = written xs at n q w kept.rises lt is numbered

  pub was_there : found xs n ≡ q.value
  was_there = all.was

  pub kept_there : ((x : T) → q.value ≡ Some x → (y : T) × (w ≡ Some y)) → (q.value ≡ None → w ≡ None) → IsKept (slice_set xs at (record { number = q.number; value = w })) live
  kept_there some none =
      let many = as_many q.value w some none in
      let a = all.counted in
      let b = kept.counted in
      record { rises = all.rises; counted = omega arith }

  pub above_there : (m : ℕ) → IsAbove m xs → IsAbove m (slice_set xs at (record { number = q.number; value = w }))
  above_there = all.above

  pub set_there : (room : ℕ) (value : Option T) → w ≡ value → IsSetAt (record { items = xs; room = room }) (record { items = slice_set xs at (record { number = q.number; value = w }); room = room }) n value
  set_there room value e = record {
    found = λ k. all.finds k ∙ ap (λ (o : Option T). if k == n then o else found xs k) e;
    above = all.above;
    room = omega arith;
  }
