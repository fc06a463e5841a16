-- Lemmas on maps of rising numbers.
use Rattle.std.proofs.Common.{◌≡◌, ◌≢◌, ℕ, zero, suc, ◌+◌, ◌<◌, ◌≤◌, ◌⊎◌, Bool, true, false, cond, eqb, ltb, List, [], ◌∷◌, ◌++◌, length, get_or, slice_get, slice_set, Option, Some, None, refl, sym, ◌∙◌, ap, subst, inl, inr, arith, eq-eqb}
use Rattle.std.specs.Prelude.{filter, is_some}
use Rattle.std.specs.List.Sorted.{IsNonDecreasingBy}
use Rattle.std.proofs.lemmas.Bool.{ne_eqb, ltb-true, ltb-false}
use Rattle.std.proofs.lemmas.Option.{slice_get_read, get_or_from_slice_get}
use Rattle.pq_core.proofs.Lists.{some_one, get_within, same_or_other, set_same, set_long}
use Rattle.pq_core.specs.Moves.{one_if}
use Rattle.pq_core.specs.declared.store.rising.Place.{Place}
use Rattle.pq_core.specs.aux.Rising.{found, numbers, IsVacant, IsAbove, IsBelow, Rises, has_value, live_count, Compacts, NoneOf}

none_of : {A : Type 0} {P : Type 0} (y : A) → None ≡ Some y → P
none_of y h = cc

-- a value that is one thing at `m ≡ n` and another elsewhere
pub by_number : {A : Type 0} (m n : ℕ) (x y z : A) → (m ≡ n → x ≡ y) → (m ≢ n → x ≡ z) → x ≡ cond (eqb m n) y z
by_number m n x y z f g =
    elim (same_or_other m n) [
      | inl e ↦ f e ∙ ap (λ b. cond b y z) (sym (eq-eqb m n e))
      | inr ne ↦ g ne ∙ ap (λ b. cond b y z) (sym (ne_eqb m n ne))
    ]

-- ---- the first place

pub found_here : {T : Type 0} (p : Place T) (items : List (Place T)) (n : ℕ) → p.number ≡ n → found (p ∷ items) n ≡ p.value
unfolding found
found_here p items n e = ap (λ b. cond b p.value (found items n)) (eq-eqb p.number n e)

pub found_skip : {T : Type 0} (p : Place T) (items : List (Place T)) (n : ℕ) → p.number ≢ n → found (p ∷ items) n ≡ found items n
unfolding found
found_skip p items n ne = ap (λ b. cond b p.value (found items n)) (ne_eqb p.number n ne)

found_both : {T : Type 0} (p : Place T) (items left : List (Place T)) (n : ℕ) → found left n ≡ found items n → found (p ∷ left) n ≡ found (p ∷ items) n
unfolding found
found_both p items left n e = ap (λ r. cond (eqb p.number n) p.value r) e

pub found_nil : (T : Type 0) (n : ℕ) → found {T = T} [] n ≡ None
unfolding found
found_nil T n = refl

-- ---- numbers below and above all places

pub found_below : {T : Type 0} (n : ℕ) (items : List (Place T)) → IsBelow n items → found items n ≡ None
unfolding IsBelow
found_below {T} n [] h = found_nil T n
found_below {T} n (p ∷ items) h = found_skip p items n (let lt : n < p.number = h.0 in omega arith) ∙ found_below n items h.1

pub found_above : {T : Type 0} (n : ℕ) (items : List (Place T)) → IsAbove n items → found items n ≡ None
unfolding IsAbove
found_above {T} n [] h = found_nil T n
found_above {T} n (p ∷ items) h = found_skip p items n (let lt : p.number < n = h.0 in omega arith) ∙ found_above n items h.1

pub above_more : {T : Type 0} (m n : ℕ) (items : List (Place T)) → m ≤ n → IsAbove m items → IsAbove n items
unfolding IsAbove
above_more m n [] le h = tt
above_more m n (p ∷ items) le h = (let lt : p.number < m = h.0 in omega arith, above_more m n items le h.1)

pub above_nil : (T : Type 0) (n : ℕ) → IsAbove {T = T} n []
unfolding IsAbove
above_nil T n = tt

below_push : {T : Type 0} (m : ℕ) (items : List (Place T)) (q : Place T) → IsBelow m items → m < q.number → IsBelow m (items ++ q ∷ [])
unfolding IsBelow
below_push m [] q h lt = (lt, tt)
below_push m (p ∷ items) q h lt = (h.0, below_push m items q h.1 lt)

pub above_push : {T : Type 0} (m : ℕ) (items : List (Place T)) (q : Place T) → IsAbove m items → q.number < m → IsAbove m (items ++ q ∷ [])
unfolding IsAbove
above_push m [] q h lt = (lt, tt)
above_push m (p ∷ items) q h lt = (h.0, above_push m items q h.1 lt)

below_at : {T : Type 0} (m : ℕ) (items : List (Place T)) (i : ℕ) (p : Place T) → IsBelow m items → slice_get items i ≡ Some p → m < p.number
unfolding IsBelow
below_at {T} m [] i p h get = none_of p get
below_at {T} m (a ∷ items) zero p h get = subst (λ (q : Place T). m < q.number) (some_one a p get) h.0
below_at {T} m (a ∷ items) (suc i) p h get = below_at m items i p h.1 get

below_set : {T : Type 0} (m : ℕ) (items : List (Place T)) (i : ℕ) (p q : Place T) → IsBelow m items → slice_get items i ≡ Some p → q.number ≡ p.number → IsBelow m (slice_set items i q)
unfolding IsBelow
below_set {T} m [] i p q h get e = tt
below_set {T} m (a ∷ items) zero p q h get e =
    let lt : m < p.number = subst (λ (r : Place T). m < r.number) (some_one a p get) h.0 in
    (omega arith, h.1)
below_set {T} m (a ∷ items) (suc i) p q h get e = (h.0, below_set m items i p q h.1 get e)

pub above_set : {T : Type 0} (m : ℕ) (items : List (Place T)) (i : ℕ) (p q : Place T) → slice_get items i ≡ Some p → q.number ≡ p.number → IsAbove m items → IsAbove m (slice_set items i q)
unfolding IsAbove
above_set {T} m [] i p q get e h = tt
above_set {T} m (a ∷ items) zero p q get e h =
    let lt : p.number < m = subst (λ (r : Place T). r.number < m) (some_one a p get) h.0 in
    (omega arith, h.1)
above_set {T} m (a ∷ items) (suc i) p q get e h = (h.0, above_set m items i p q get e h.1)

-- ---- rising places

pub rises_nil : (T : Type 0) → Rises {T = T} []
unfolding Rises
rises_nil T = tt

pub rises_push : {T : Type 0} (items : List (Place T)) (q : Place T) → Rises items → IsAbove q.number items → Rises (items ++ q ∷ [])
unfolding Rises IsAbove IsBelow
rises_push [] q h above = (tt, tt)
rises_push (p ∷ items) q h above = (below_push p.number items q h.0 above.0, rises_push items q h.1 above.1)

pub rises_set : {T : Type 0} (items : List (Place T)) (i : ℕ) (p q : Place T) → Rises items → slice_get items i ≡ Some p → q.number ≡ p.number → Rises (slice_set items i q)
unfolding Rises
rises_set {T} [] i p q h get e = tt
rises_set {T} (a ∷ items) zero p q h get e =
    (subst (λ m. IsBelow m items) (ap (λ (r : Place T). r.number) (some_one a p get) ∙ sym e) h.0, h.1)
rises_set {T} (a ∷ items) (suc i) p q h get e = (below_set a.number items i p q h.0 get e, rises_set items i p q h.1 get e)

-- the place of a number has its value
pub found_at : {T : Type 0} (items : List (Place T)) (i : ℕ) (p : Place T) → Rises items → slice_get items i ≡ Some p → found items p.number ≡ p.value
unfolding Rises
found_at {T} [] i p h get = none_of p get
found_at {T} (a ∷ items) zero p h get =
    let e = some_one a p get in found_here a items p.number (ap (λ (r : Place T). r.number) e) ∙ ap (λ (r : Place T). r.value) e
found_at {T} (a ∷ items) (suc i) p h get =
    let lt = below_at a.number items i p h.0 get in
    found_skip a items p.number (omega arith) ∙ found_at items i p h.1 get

place_is : {T : Type 0} (p : Place T) (n : ℕ) (w : Option T) → p.number ≡ n → p.value ≡ w → Some p ≡ Some (record { number = n; value = w })
place_is {T} p n w e f =
    let at : ℕ → Option T → Option (Place T) = λ (m : ℕ) (x : Option T). Some (record { number = m; value = x }) in
    ap (λ m. at m p.value) e ∙ ap (at n) f

-- each value that is found is in a place
pub found_somewhere : {T : Type 0} (items : List (Place T)) (n : ℕ) (v : T) → found items n ≡ Some v → (i : ℕ) × (slice_get items i ≡ Some (record { number = n; value = Some v }))
found_somewhere {T} [] n v h = none_of v (sym (found_nil T n) ∙ h)
found_somewhere {T} (p ∷ items) n v h =
    elim (same_or_other p.number n) [
      | inl e ↦ (zero, place_is p n (Some v) e (sym (found_here p items n e) ∙ h))
      | inr ne ↦ (let r = found_somewhere items n v (sym (found_skip p items n ne) ∙ h) in (suc r.0, r.1))
    ]

-- a number of no place has no value
pub found_nowhere : {T : Type 0} (items : List (Place T)) (n : ℕ) → ((i : ℕ) (p : Place T) → slice_get items i ≡ Some p → p.number ≡ n → ⊥) → found items n ≡ None
found_nowhere {T} [] n none = found_nil T n
found_nowhere {T} (p ∷ items) n none = found_skip p items n (none zero p refl) ∙ found_nowhere items n (λ i q get. none (suc i) q get)

-- ---- a place more, and a place written

pub found_push_same : {T : Type 0} (items : List (Place T)) (q : Place T) → IsAbove q.number items → found (items ++ q ∷ []) q.number ≡ q.value
unfolding IsAbove
found_push_same [] q above = found_here q [] q.number refl
found_push_same (p ∷ items) q above =
    found_skip p (items ++ q ∷ []) q.number (let lt : p.number < q.number = above.0 in omega arith) ∙ found_push_same items q above.1

pub found_push_other : {T : Type 0} (items : List (Place T)) (q : Place T) (n : ℕ) → n ≢ q.number → found (items ++ q ∷ []) n ≡ found items n
found_push_other [] q n ne = found_skip q [] n (λ e. ne (sym e))
found_push_other (p ∷ items) q n ne = found_both p items (items ++ q ∷ []) n (found_push_other items q n ne)

pub found_push : {T : Type 0} (items : List (Place T)) (number : ℕ) (w : Option T) → IsAbove number items → (n : ℕ) → found (items ++ record { number = number; value = w } ∷ []) n ≡ cond (eqb n number) w (found items n)
found_push {T} items number w above n =
    let q : Place T = record { number = number; value = w } in
    by_number n number (found (items ++ q ∷ []) n) w (found items n)
    (λ e. ap (found (items ++ q ∷ [])) e ∙ found_push_same items q above)
    (λ ne. found_push_other items q n ne)

found_set_same : {T : Type 0} (items : List (Place T)) (i : ℕ) (p q : Place T) → Rises items → slice_get items i ≡ Some p → q.number ≡ p.number → found (slice_set items i q) p.number ≡ q.value
unfolding Rises
found_set_same [] i p q h get e = none_of p get
found_set_same (a ∷ items) zero p q h get e = found_here q items p.number e
found_set_same (a ∷ items) (suc i) p q h get e =
    let lt = below_at a.number items i p h.0 get in
    found_skip a (slice_set items i q) p.number (omega arith) ∙ found_set_same items i p q h.1 get e

found_set_other : {T : Type 0} (items : List (Place T)) (i : ℕ) (p q : Place T) (n : ℕ) → slice_get items i ≡ Some p → q.number ≡ p.number → n ≢ p.number → found (slice_set items i q) n ≡ found items n
found_set_other {T} [] i p q n get e ne = refl
found_set_other {T} (a ∷ items) zero p q n get e ne =
    let same = ap (λ (r : Place T). r.number) (some_one a p get) in
    found_skip q items n (λ f. ne (sym f ∙ e)) ∙ sym (found_skip a items n (λ f. ne (sym f ∙ same)))
found_set_other {T} (a ∷ items) (suc i) p q n get e ne = found_both a items (slice_set items i q) n (found_set_other items i p q n get e ne)

pub found_set : {T : Type 0} (items : List (Place T)) (i : ℕ) (p q : Place T) (number : ℕ) → Rises items → slice_get items i ≡ Some p → p.number ≡ number → q.number ≡ p.number → (n : ℕ) → found (slice_set items i q) n ≡ cond (eqb n number) q.value (found items n)
found_set items i p q number h get is e n =
    by_number n number (found (slice_set items i q) n) q.value (found items n)
    (λ f. ap (found (slice_set items i q)) (f ∙ sym is) ∙ found_set_same items i p q h get e)
    (λ ne. found_set_other items i p q n get e (λ f. ne (f ∙ is)))

-- ---- the count of values

pub count_push : {T : Type 0} (items : List (Place T)) (number : ℕ) (v : T) → live_count (items ++ record { number = number; value = Some v } ∷ []) ≡ live_count items + 1
unfolding live_count
count_push [] number v = omega arith
count_push (p ∷ items) number v = let r = count_push items number v in omega arith

pub count_set : {T : Type 0} (items : List (Place T)) (i : ℕ) (p q : Place T) → slice_get items i ≡ Some p → live_count (slice_set items i q) + one_if (has_value p) ≡ live_count items + one_if (has_value q)
unfolding live_count
count_set {T} [] i p q get = none_of p get
count_set {T} (a ∷ items) zero p q get =
    let e : one_if (has_value a) ≡ one_if (has_value p) = ap (λ (r : Place T). one_if (has_value r)) (some_one a p get) in omega arith
count_set {T} (a ∷ items) (suc i) p q get = let r = count_set items i p q get in omega arith

one_most : (b : Bool) → one_if b ≤ 1
one_most true = omega arith
one_most false = omega arith

pub count_most : {T : Type 0} (items : List (Place T)) → live_count items ≤ length items
unfolding live_count
count_most [] = omega arith
count_most (p ∷ items) = let r = count_most items in let s = one_most (has_value p) in omega arith

pub count_nil : (T : Type 0) → live_count {T = T} [] ≡ 0
unfolding live_count
count_nil T = refl

-- ---- the numbers of the places

numbers_set : {T : Type 0} (items : List (Place T)) (i : ℕ) (p q : Place T) → slice_get items i ≡ Some p → q.number ≡ p.number → numbers (slice_set items i q) ≡ numbers items
numbers_set [] i p q get e = refl
numbers_set {T} (a ∷ items) zero p q get e = ap (λ (n : ℕ). n ∷ numbers items) (e ∙ ap (λ (r : Place T). r.number) (sym (some_one a p get)))
numbers_set (a ∷ items) (suc i) p q get e = ap (λ (ns : List ℕ). a.number ∷ ns) (numbers_set items i p q get e)

-- the number of a place
pub number_at : {T : Type 0} (items : List (Place T)) (i : ℕ) (p : Place T) → slice_get items i ≡ Some p → slice_get (numbers items) i ≡ Some p.number
number_at [] i p get = none_of p get
number_at {T} (a ∷ items) zero p get = ap (λ (r : Place T). Some r.number) (some_one a p get)
number_at (a ∷ items) (suc i) p get = number_at items i p get

-- what is read of a place
place_read : {T : Type 0} (xs ys : List (Place T)) (at : ℕ) (q : Place T) → ys ≡ xs → at < length xs → q ≡ get_or ys at q → slice_get xs at ≡ Some q
place_read {T} xs ys at q e lt is = slice_get_read xs (length xs) at q refl lt (is ∙ ap (λ (zs : List (Place T)). get_or zs at q) e)

pub place_some : {T : Type 0} (xs ys : List (Place T)) (at n : ℕ) (q : Place T) (v : T) → ys ≡ xs → Rises xs → at < length xs → q ≡ get_or ys at q → q.value ≡ Some v → n ≡ q.number
    → (found xs n ≡ Some v) × (slice_get (numbers xs) at ≡ Some n)
place_some xs ys at n q v e h lt is some same =
    let get = place_read xs ys at q e lt is in
    (ap (found xs) same ∙ (found_at xs at q h get ∙ some), number_at xs at q get ∙ ap Some (sym same))

pub place_none : {T : Type 0} (xs ys : List (Place T)) (at : ℕ) (q : Place T) → ys ≡ xs → Rises xs → at < length xs → q ≡ get_or ys at q → q.value ≡ None
    → (n : ℕ) → slice_get (numbers xs) at ≡ Some n → found xs n ≡ None
place_none xs ys at q e h lt is none n here =
    let get = place_read xs ys at q e lt is in
    ap (found xs) (some_one n q.number (sym here ∙ number_at xs at q get)) ∙ (found_at xs at q h get ∙ none)

-- ---- a place written

-- what holds of a map whose place of `number` was `q` and has now the value `w`
pub record Written {T : Type 0} (xs : List (Place T)) (at : ℕ) (q : Place T) (number : ℕ) (w : Option T) : Type 0 where
  pub rises : Rises (slice_set xs at (record { number = q.number; value = w }))
  pub finds : (n : ℕ) → found (slice_set xs at (record { number = q.number; value = w })) n ≡ cond (eqb n number) w (found xs n)
  pub above : (m : ℕ) → IsAbove m xs → IsAbove m (slice_set xs at (record { number = q.number; value = w }))
  pub counted : live_count (slice_set xs at (record { number = q.number; value = w })) + one_if (is_some q.value) ≡ live_count xs + one_if (is_some w)
  pub most : live_count (slice_set xs at (record { number = q.number; value = w })) ≤ length xs
  pub was : found xs number ≡ q.value
  pub numbered : numbers (slice_set xs at (record { number = q.number; value = w })) ≡ numbers xs
  pub here : slice_get (slice_set xs at (record { number = q.number; value = w })) at ≡ Some (record { number = number; value = w })

pub written : {T : Type 0} (xs : List (Place T)) (at number : ℕ) (q : Place T) (w : Option T) → Rises xs → at < length xs → q ≡ get_or xs at q → ((p : Place T) → slice_get xs at ≡ Some p → p.number ≡ number) → Written xs at q number w
written {T} xs at number q w h lt is numbered =
    let r : Place T = record { number = q.number; value = w } in
    let get = slice_get_read xs (length xs) at q refl lt is in
    let same = numbered q get in
    let most = count_most (slice_set xs at r) in
    let long = set_long xs at r in
    record {
      rises = rises_set xs at q r h get refl;
      finds = found_set xs at q r number h get same refl;
      above = λ m a. above_set m xs at q r get refl a;
      counted = count_set xs at q r get;
      most = omega arith;
      was = ap (found xs) (sym same) ∙ found_at xs at q h get;
      numbered = numbers_set xs at q r get refl;
      here = set_same xs at r lt ∙ place_is r number w same refl;
    }

pub taken_count : {T : Type 0} (xs : List (Place T)) (at number : ℕ) (q : Place T) (v : T) → Written xs at q number None → Some v ≡ q.value → live_count (slice_set xs at (record { number = q.number; value = None })) + 1 ≡ live_count xs
taken_count {T} xs at number q v w e =
    let k = w.counted in
    let one : one_if (is_some q.value) ≡ 1 = ap (λ (x : Option T). one_if (is_some x)) (sym e) in
    omega arith

pub put_count : {T : Type 0} (xs : List (Place T)) (at number : ℕ) (q : Place T) (v : T) → Written xs at q number (Some v) → q.value ≡ None → live_count (slice_set xs at (record { number = q.number; value = Some v })) ≡ live_count xs + 1
put_count {T} xs at number q v w e =
    let k = w.counted in
    let one : one_if (is_some q.value) ≡ 0 = ap (λ (x : Option T). one_if (is_some x)) e in
    omega arith

pub vacant_found : {T : Type 0} (xs : List (Place T)) (n : ℕ) → Rises xs → IsVacant xs n → found xs n ≡ None
vacant_found xs n h v = found_at xs v.at (record { number = n; value = None }) h v.here

-- ---- vacant places removed

vacant_head : {T : Type 0} (p : Place T) (items : List (Place T)) (n : ℕ) → p.value ≡ None → IsBelow p.number items → found (p ∷ items) n ≡ found items n
vacant_head p items n e below =
    elim (same_or_other p.number n) [
      | inl f ↦ found_here p items n f ∙ e ∙ sym (ap (found items) (sym f) ∙ found_below p.number items below)
      | inr ne ↦ found_skip p items n ne
    ]

keep_above : {T : Type 0} (n : ℕ) (p : Place T) (rest : List (Place T)) (b : Bool) → p.number < n → IsAbove n rest → IsAbove n (cond b (p ∷ rest) rest)
unfolding IsAbove
keep_above n p rest true lt h = (lt, h)
keep_above n p rest false lt h = h

keep_below : {T : Type 0} (n : ℕ) (p : Place T) (rest : List (Place T)) (b : Bool) → n < p.number → IsBelow n rest → IsBelow n (cond b (p ∷ rest) rest)
unfolding IsBelow
keep_below n p rest true lt h = (lt, h)
keep_below n p rest false lt h = h

keep_rises : {T : Type 0} (p : Place T) (rest : List (Place T)) (b : Bool) → IsBelow p.number rest → Rises rest → Rises (cond b (p ∷ rest) rest)
unfolding Rises
keep_rises p rest true below h = (below, h)
keep_rises p rest false below h = h

keep_found : {T : Type 0} (p : Place T) (items rest : List (Place T)) (n : ℕ) (v : Option T) → p.value ≡ v → IsBelow p.number items → found rest n ≡ found items n → found (cond (is_some p.value) (p ∷ rest) rest) n ≡ found (p ∷ items) n
keep_found p items rest n None e below same =
    ap (λ w. found (cond (is_some w) (p ∷ rest) rest) n) e ∙ same ∙ sym (vacant_head p items n e below)
keep_found p items rest n (Some v) e below same =
    ap (λ w. found (cond (is_some w) (p ∷ rest) rest) n) e ∙ found_both p items rest n same

keep_count : {T : Type 0} (p : Place T) (rest : List (Place T)) (b : Bool) → has_value p ≡ b → live_count (cond b (p ∷ rest) rest) ≡ one_if b + live_count rest
unfolding live_count
keep_count p rest true e = ap (λ c. one_if c + live_count rest) e
keep_count p rest false e = omega arith

keep_long : {T : Type 0} (p : Place T) (rest : List (Place T)) (b : Bool) → length (cond b (p ∷ rest) rest) ≡ one_if b + length rest
keep_long p rest true = omega arith
keep_long p rest false = omega arith

pub above_filter : {T : Type 0} (n : ℕ) (items : List (Place T)) → IsAbove n items → IsAbove n (filter has_value items)
unfolding IsAbove
above_filter n [] h = tt
above_filter n (p ∷ items) h = keep_above n p (filter has_value items) (has_value p) h.0 (above_filter n items h.1)

below_filter : {T : Type 0} (n : ℕ) (items : List (Place T)) → IsBelow n items → IsBelow n (filter has_value items)
unfolding IsBelow
below_filter n [] h = tt
below_filter n (p ∷ items) h = keep_below n p (filter has_value items) (has_value p) h.0 (below_filter n items h.1)

pub rises_filter : {T : Type 0} (items : List (Place T)) → Rises items → Rises (filter has_value items)
unfolding Rises
rises_filter [] h = tt
rises_filter (p ∷ items) h = keep_rises p (filter has_value items) (has_value p) (below_filter p.number items h.0) (rises_filter items h.1)

pub found_filter : {T : Type 0} (items : List (Place T)) (n : ℕ) → Rises items → found (filter has_value items) n ≡ found items n
unfolding Rises
found_filter [] n h = refl
found_filter (p ∷ items) n h = keep_found p items (filter has_value items) n p.value refl h.0 (found_filter items n h.1)

pub count_filter : {T : Type 0} (items : List (Place T)) → live_count (filter has_value items) ≡ live_count items
unfolding live_count
count_filter [] = refl
count_filter (p ∷ items) =
    let r = count_filter items in
    let k = keep_count p (filter has_value items) (has_value p) refl in
    k ∙ ap (λ n. one_if (has_value p) + n) r

pub long_filter : {T : Type 0} (items : List (Place T)) → length (filter has_value items) ≡ live_count items
unfolding live_count
long_filter [] = refl
long_filter (p ∷ items) = keep_long p (filter has_value items) (has_value p) ∙ ap (λ n. one_if (has_value p) + n) (long_filter items)

pub compacts_all : {T : Type 0} (items left : List (Place T)) → Rises items → left ≡ filter has_value items → Compacts items left
compacts_all items left h e =
    rw e (record {
      rises = rises_filter items h;
      same = record { same = λ n. found_filter items n h; above = λ n a. above_filter n items a };
      counted = count_filter items;
    })

-- ---- a value more

-- what holds of a map that was compacted to `left` and then got `value` under `number`
pub record Pushed {T : Type 0} (items left : List (Place T)) (number : ℕ) (value : T) : Type 0 where
  pub rises : Rises (left ++ record { number = number; value = Some value } ∷ [])
  pub finds : (n : ℕ) → found (left ++ record { number = number; value = Some value } ∷ []) n ≡ cond (eqb n number) (Some value) (found items n)
  pub above : (m : ℕ) → number < m → IsAbove m items → IsAbove m (left ++ record { number = number; value = Some value } ∷ [])
  pub counted : live_count (left ++ record { number = number; value = Some value } ∷ []) ≡ live_count items + 1

pub pushed : {T : Type 0} (items left : List (Place T)) (number : ℕ) (value : T) → Compacts items left → IsAbove number items → Pushed items left number value
pushed {T} items left number value k a =
    let q : Place T = record { number = number; value = Some value } in
    let b = k.same.above number a in
    let c = k.counted in
    let d = count_push left number value in
    record {
      rises = rises_push left q k.rises b;
      finds = λ n. found_push left number (Some value) b n ∙ ap (λ r. cond (eqb n number) (Some value) r) (k.same.same n);
      above = λ m lt h. above_push m left q (k.same.above m h) lt;
      counted = omega arith;
    }

-- ---- no value

not_one : (b : Bool) → one_if b ≡ 0 → b ≡ false
not_one true e = absurd (omega arith)
not_one false e = refl

is_none : {T : Type 0} (v : Option T) → is_some v ≡ false → v ≡ None
is_none None e = refl
is_none (Some v) e = cc

pub empty_found : {T : Type 0} (items : List (Place T)) → live_count items ≡ 0 → (n : ℕ) → found items n ≡ None
unfolding live_count found
empty_found [] e n = refl
empty_found (p ∷ items) e n =
    let a : one_if (is_some p.value) + live_count items ≡ 0 = e in
    let one : one_if (is_some p.value) ≡ 0 = omega arith in
    let rest : live_count items ≡ 0 = omega arith in
    let v = is_none p.value (not_one (is_some p.value) one) in
    elim (same_or_other p.number n) [
      | inl f ↦ found_here p items n f ∙ v
      | inr ne ↦ found_skip p items n ne ∙ empty_found items rest n
    ]

pub found_empty : {T : Type 0} (items : List (Place T)) → Rises items → ((n : ℕ) → found items n ≡ None) → live_count items ≡ 0
unfolding live_count Rises
found_empty [] h none = refl
found_empty {T} (p ∷ items) h none =
    let v : p.value ≡ None = sym (found_here p items p.number refl) ∙ none p.number in
    let one : one_if (is_some p.value) ≡ 0 = ap (λ (w : Option T). one_if (is_some w)) v in
    let rest = found_empty items h.1 (λ n. sym (vacant_head p items n v h.0) ∙ none n) in
    omega arith

-- ---- the search

rises_after : {T : Type 0} (m : ℕ) (items : List (Place T)) (j : ℕ) (d : Place T) → IsBelow m items → j < length items → m < (get_or items j d).number
unfolding IsBelow
rises_after m [] j d h lt = absurd (omega arith)
rises_after m (a ∷ items) zero d h lt = h.0
rises_after m (a ∷ items) (suc j) d h lt = rises_after m items j d h.1 (omega arith)

pub rises_strictly : {T : Type 0} (items : List (Place T)) (i j : ℕ) (d : Place T) → Rises items → i < j → j < length items → (get_or items i d).number < (get_or items j d).number
unfolding Rises
rises_strictly [] i j d h lt within = absurd (omega arith)
rises_strictly (a ∷ items) i zero d h lt within = absurd (omega arith)
rises_strictly (a ∷ items) zero (suc j) d h lt within = rises_after a.number items j d h.0 (omega arith)
rises_strictly (a ∷ items) (suc i) (suc j) d h lt within = rises_strictly items i j d h.1 (omega arith) (omega arith)

pub rises_weakly : {T : Type 0} (items : List (Place T)) → Rises items → IsNonDecreasingBy (λ (p : Place T). p.number) items
rises_weakly {T} items h i j d le within =
    elim (same_or_other i j) [
      | inl e ↦ (let f : (get_or items i d).number ≡ (get_or items j d).number = ap (λ k. (get_or items k d).number) e in omega arith)
      | inr ne ↦ (let lt : (get_or items i d).number < (get_or items j d).number = rises_strictly items i j d h (omega arith) within in omega arith)
    ]

less_or : (a b : ℕ) → (a < b) ⊎ (b ≤ a)
less_or zero zero = inr (omega arith)
less_or zero (suc b) = inl (omega arith)
less_or (suc a) zero = inr (omega arith)
less_or (suc a) (suc b) = elim (less_or a b) [ inl w ↦ inl (omega arith) | inr w ↦ inr (omega arith) ]

-- a place before those that are not below `n` has another number
before : {T : Type 0} (xs : List (Place T)) (n first i : ℕ) (p : Place T) → ((k : ℕ) (d : Place T) → 0 ≤ k → k < first → ltb (get_or xs k d).number n ≡ true) → i < first → slice_get xs i ≡ Some p → p.number ≡ n → ⊥
before {T} xs n first i p below lt get e =
    let less = ltb-true (get_or xs i p).number n (below i p (omega arith) lt) in
    let same : (get_or xs i p).number ≡ p.number = ap (λ (r : Place T). r.number) (get_or_from_slice_get xs i p p get) in
    omega arith

pub nowhere_end : {T : Type 0} (xs : List (Place T)) (n first : ℕ) → ((k : ℕ) (d : Place T) → 0 ≤ k → k < first → ltb (get_or xs k d).number n ≡ true) → length xs ≤ first → (i : ℕ) (p : Place T) → slice_get xs i ≡ Some p → p.number ≡ n → ⊥
nowhere_end xs n first below end i p get e =
    let within = get_within xs i p get in
    before xs n first i p below (omega arith) get e

pub nowhere_between : {T : Type 0} (xs : List (Place T)) (n first : ℕ) (q : Place T) → Rises xs → ((k : ℕ) (d : Place T) → 0 ≤ k → k < first → ltb (get_or xs k d).number n ≡ true) → ((k : ℕ) (d : Place T) → first ≤ k → k < length xs → ltb (get_or xs k d).number n ≡ false) → (get_or xs first q).number ≢ n → (i : ℕ) (p : Place T) → slice_get xs i ≡ Some p → p.number ≡ n → ⊥
nowhere_between {T} xs n first q h below above ne i p get e =
    let within = get_within xs i p get in
    let same : (get_or xs i p).number ≡ p.number = ap (λ (r : Place T). r.number) (get_or_from_slice_get xs i p p get) in
    elim (less_or i first) [
      | inl lt ↦ before xs n first i p below lt get e
      | inr le ↦ elim (same_or_other first i) [
        | inl f ↦ (let at : (get_or xs first q).number ≡ p.number = ap (λ (r : Place T). r.number) (ap (λ k. get_or xs k q) f ∙ get_or_from_slice_get xs i p q get) in omega arith)
        | inr other ↦ (
            let up = rises_strictly xs first i p h (omega arith) within in
            let low = ltb-false (get_or xs first p).number n (above first p (omega arith) (omega arith)) in
            omega arith)
      ]
    ]

pub place_here : {T : Type 0} (xs : List (Place T)) (n first : ℕ) (q : Place T) → (get_or xs first q).number ≡ n → (p : Place T) → slice_get xs first ≡ Some p → p.number ≡ n
place_here {T} xs n first q e p get =
    sym (ap (λ (r : Place T). r.number) (get_or_from_slice_get xs first p q get)) ∙ e

-- ---- the values of a map, one after the other

module _ {T : Type 0} (Holds : T → Type 0) where
  pub none_more : (items : List (Place T)) (n : ℕ) (p : Place T) → slice_get items n ≡ Some p → ((value : T) → p.value ≡ Some value → Holds value → ⊥) → NoneOf Holds items n → NoneOf Holds items (n + 1)
  none_more items n p here none before j q value lt get is holds = elim (same_or_other j n) [
    | inl e ↦
        let same : p ≡ q = some_one p q (sym here ∙ (ap (λ (i : ℕ). slice_get items i) (sym e) ∙ get)) in
        none value (ap (λ (x : Place T). x.value) same ∙ is) holds
    | inr ne ↦ before j q value (omega arith) get is holds
  ]

  -- the test of a value says that it does not
  pub none_here : (p : Place T) (value : T) (t : Bool) → p.value ≡ Some value → (Holds value → t ≡ true) → t ≡ false → (other : T) → p.value ≡ Some other → Holds other → ⊥
  none_here p value t is test off other at holds =
      let on = test (subst Holds (some_one other value (sym at ∙ is)) holds) in
      cc

  pub none_found : (items : List (Place T)) → NoneOf Holds items (length items) → (n : ℕ) (value : T) → found items n ≡ Some value → Holds value → ⊥
  none_found items none n value h holds =
      let at = found_somewhere items n value h in
      none at.0 _ value (get_within items at.0 _ at.1) at.1 refl holds
