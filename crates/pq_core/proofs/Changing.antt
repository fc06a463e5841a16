-- One value of a map from numbers is taken out and put back.
use Rattle.std.proofs.Common.{◌≡◌, ◌≢◌, ℕ, ◌+◌, ◌<◌, ◌≤◌, ◌==◌, if◌then◌else◌, Bool, true, false, List, Option, Some, None, IfNone, refl, sym, ◌∙◌, ap, arith}
use Rattle.std.specs.Prelude.{OnErr, OnOk, is_err, Ok, Err, Result, [], ◌∷◌}
use Rattle.std.proofs.lemmas.Bool.{eq-eqb, eqb-true}
use Rattle.pq_core.specs.declared.store.rising.Place.{Place}
use Rattle.pq_core.specs.aux.Rising.{Slots, found, IsAbove, SameFound}
use Rattle.pq_core.specs.aux.Changes.{IsSetAt, IsSameMap}

pub if_at : {A : Type 0} (n : ℕ) (x y : A) → (if n == n then x else y) ≡ x
if_at n x y = ap (λ (b : Bool). if b then x else y) (eq-eqb n n refl)

-- `by_test b` is a case on the test `b`
pub if_other : {A : Type 0} (k n : ℕ) (x y : A) → k ≢ n → (if k == n then x else y) ≡ y
if_other {A} k n x y ne = by_test (k == n) refl
  where
    by_test : (b : Bool) → (k == n) ≡ b → (if k == n then x else y) ≡ y
    by_test true e = absurd (ne (eqb-true k n e))
    by_test false e = ap (λ (b : Bool). if b then x else y) e

module _ {T : Type 0} (a b c : Slots T) (n : ℕ) (value : T) where
  both : ((k : ℕ) → found b.items k ≡ (if k == n then None else found a.items k))
      → ((k : ℕ) → found c.items k ≡ (if k == n then Some value else found b.items k))
      → (k : ℕ) → found c.items k ≡ (if k == n then Some value else found a.items k)
  both f g k = g k ∙ by_test (k == n) refl
    where
      by_test : (t : Bool) → (k == n) ≡ t → (if k == n then Some value else found b.items k) ≡ (if k == n then Some value else found a.items k)
      by_test true e = ap (λ (s : Bool). if s then Some value else found b.items k) e ∙ sym (ap (λ (s : Bool). if s then Some value else found a.items k) e)
      by_test false e =
          ap (λ (s : Bool). if s then Some value else found b.items k) e ∙ (f k ∙ (ap (λ (s : Bool). if s then None else found a.items k) e
          ∙ sym (ap (λ (s : Bool). if s then Some value else found a.items k) e)))

  -- the value is put back as another
  pub set_back : ((k : ℕ) → found b.items k ≡ (if k == n then None else found a.items k)) → ((m : ℕ) → IsAbove m a.items → IsAbove m b.items)
      → a.room + 1 ≤ b.room → ((k : ℕ) → found c.items k ≡ (if k == n then Some value else found b.items k))
      → b.room ≤ c.room + 1 → ((m : ℕ) → IsAbove m b.items → IsAbove m c.items) → IsSetAt a c n (Some value)
  set_back f up more g room down = record { found = both f g; above = λ m h. down m (up m h); room = omega arith }

module _ {T : Type 0} (a b : Slots T) (n : ℕ) where
  -- nothing was there to take out
  pub none_taken : found a.items n ≡ None → ((k : ℕ) → found b.items k ≡ (if k == n then None else found a.items k))
      → ((m : ℕ) → IsAbove m a.items → IsAbove m b.items) → a.room ≤ b.room → IsSameMap a b
  none_taken h f up room = record { found = λ k. f k ∙ at_place k; above = up; room = room }
    where
      at_place : (k : ℕ) → (if k == n then None else found a.items k) ≡ found a.items k
      at_place k = by_test (k == n) refl
        where
          by_test : (t : Bool) → (k == n) ≡ t → (if k == n then None else found a.items k) ≡ found a.items k
          by_test true e =
              ap (λ (s : Bool). if s then None else found a.items k) e ∙ (sym h ∙ ap (λ (j : ℕ). found a.items j) (sym (eqb-true k n e)))
          by_test false e = ap (λ (s : Bool). if s then None else found a.items k) e

module _ {T : Type 0} (a b : Slots T) (n : ℕ) (value : Option T) where
  pub set_here : IsSetAt a b n value → found b.items n ≡ value
  set_here s = s.found n ∙ if_at n value (found a.items n)

  pub set_others : IsSetAt a b n value → (k : ℕ) → k ≢ n → found b.items k ≡ found a.items k
  set_others s k ne = s.found k ∙ if_other k n value (found a.items k) ne

-- what follows from what a clause says where there is no value
pub none_after : {X : Type 0} (r : Option X) {P Q : Type 0} → IfNone r P → (P → Q) → IfNone r Q
none_after None p f = f p
none_after (Some x) p f = p

-- what follows from what a clause says after an error
pub err_after : {X Y : Type 0} (r : Result X Y) {P Q : Type 0} → OnErr r P → (P → Q) → OnErr r Q
err_after (Ok x) p f = p
err_after (Err e) p f = f p

-- room is made, and a value is pushed
pub pushed_at : {T : Type 0} (a b c : List (Place T)) (n : ℕ) (value : T) → SameFound a b → ((k : ℕ) → found c k ≡ (if k == n then Some value else found b k))
    → (k : ℕ) → found c k ≡ (if k == n then Some value else found a k)
pushed_at a b c n value s f k = f k ∙ ap (λ (x : Option _). if k == n then Some value else x) (s.same k)

-- after a call that made room
pub room_made : {X Y : Type 0} {n : ℕ} {b : Bool} (r : Result X Y) → OnOk r (1 ≤ n) → b ≡ false → b ≡ is_err r → 0 < n
room_made (Ok x) h e f = omega (arith, h)
room_made (Err y) h e f = absurd (cc)

pub above_next : {T : Type 0} (items : List (Place T)) (n : ℕ) → IsAbove n items → IsAbove (n + 1) items
unfolding IsAbove
above_next [] n h = h
above_next (p ∷ items) n h = (let a : p.number < n = h.0 in omega arith, above_next items n h.1)
