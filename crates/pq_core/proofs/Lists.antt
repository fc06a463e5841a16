-- Lemmas on places in lists. A middle term: only proofs need it.
use Rattle.std.proofs.Common.{◌≡◌, ◌≢◌, ℕ, zero, suc, ◌+◌, ◌<◌, ◌⊎◌, List, [], ◌∷◌, ◌++◌, map, length, slice_get, slice_set, Some, None, refl, sym, ap, inl, inr, arith}

-- what stands at a place of a list in which one place was set
pub record Changed {A : Type 0} (xs : List A) (i : ℕ) (x : A) (j : ℕ) (y : A) : Type 0 where
  pub same : j ≡ i → y ≡ x
  pub other : j ≢ i → slice_get xs j ≡ Some y

pub some_one : {A : Type 0} (x y : A) → Some x ≡ Some y → x ≡ y
some_one x y e = cc

pub none_some : {A : Type 0} (y : A) → None ≡ Some y → ⊥
none_some y e = cc

pub get_set : {A : Type 0} (xs : List A) (i : ℕ) (x : A) (j : ℕ) (y : A) → slice_get (slice_set xs i x) j ≡ Some y → ((j ≡ i) × (y ≡ x)) ⊎ ((j ≢ i) × (slice_get xs j ≡ Some y))
get_set [] i x j y h = absurd (none_some y h)
get_set (a ∷ xs) zero x zero y h = inl (refl, sym (some_one x y h))
get_set (a ∷ xs) zero x (suc j) y h = inr (omega arith, h)
get_set (a ∷ xs) (suc i) x zero y h = inr (omega arith, h)
get_set (a ∷ xs) (suc i) x (suc j) y h =
    elim (get_set xs i x j y h) [ inl w ↦ inl (ap suc w.0, w.1) | inr w ↦ inr (let ne : j ≢ i = w.0 in omega arith, w.1) ]

pub get_append : {A : Type 0} (xs : List A) (x : A) (j : ℕ) (y : A) → slice_get (xs ++ x ∷ []) j ≡ Some y → ((j ≡ length xs) × (y ≡ x)) ⊎ (slice_get xs j ≡ Some y)
get_append [] x zero y h = inl (refl, sym (some_one x y h))
get_append [] x (suc j) y h = absurd (none_some y h)
get_append (a ∷ xs) x zero y h = inr h
get_append (a ∷ xs) x (suc j) y h =
    elim (get_append xs x j y h) [ inl w ↦ inl (ap suc w.0, w.1) | inr w ↦ inr w ]

-- what stood at a place of a list stands there in a longer one
pub get_longer : {A : Type 0} (xs ys : List A) (j : ℕ) (y : A) → slice_get xs j ≡ Some y → slice_get (xs ++ ys) j ≡ Some y
get_longer [] ys j y h = absurd (none_some y h)
get_longer (a ∷ xs) ys zero y h = h
get_longer (a ∷ xs) ys (suc j) y h = get_longer xs ys j y h

pub get_within : {A : Type 0} (xs : List A) (j : ℕ) (y : A) → slice_get xs j ≡ Some y → j < length xs
get_within [] j y h = absurd (none_some y h)
get_within (a ∷ xs) zero y h = omega arith
get_within (a ∷ xs) (suc j) y h = let r : j < length xs = get_within xs j y h in omega arith

pub get_there : {A : Type 0} (xs : List A) (j : ℕ) → j < length xs → (y : A) × (slice_get xs j ≡ Some y)
get_there [] j h = absurd (omega arith)
get_there (a ∷ xs) zero h = (a, refl)
get_there (a ∷ xs) (suc j) h = get_there xs j (omega arith)

pub get_map : {A B : Type 0} (f : A → B) (xs : List A) (j : ℕ) (y : B) → slice_get (map f xs) j ≡ Some y → (x : A) × (slice_get xs j ≡ Some x) × (y ≡ f x)
get_map f [] j y h = absurd (none_some y h)
get_map f (a ∷ xs) zero y h = (a, refl, sym (some_one (f a) y h))
get_map f (a ∷ xs) (suc j) y h = get_map f xs j y h

pub set_same : {A : Type 0} (xs : List A) (i : ℕ) (x : A) → i < length xs → slice_get (slice_set xs i x) i ≡ Some x
set_same [] i x h = absurd (omega arith)
set_same (a ∷ xs) zero x h = refl
set_same (a ∷ xs) (suc i) x h = set_same xs i x (omega arith)

pub set_other : {A : Type 0} (xs : List A) (i : ℕ) (x : A) (j : ℕ) → j ≢ i → slice_get (slice_set xs i x) j ≡ slice_get xs j
set_other [] i x j ne = refl
set_other (a ∷ xs) zero x zero ne = absurd (ne refl)
set_other (a ∷ xs) zero x (suc j) ne = refl
set_other (a ∷ xs) (suc i) x zero ne = refl
set_other (a ∷ xs) (suc i) x (suc j) ne = set_other xs i x j (λ e. ne (ap suc e))

pub set_long : {A : Type 0} (xs : List A) (i : ℕ) (x : A) → length (slice_set xs i x) ≡ length xs
set_long [] i x = refl
set_long (a ∷ xs) zero x = refl
set_long (a ∷ xs) (suc i) x = ap suc (set_long xs i x)

pub append_long : {A : Type 0} (xs : List A) (x : A) → length (xs ++ x ∷ []) ≡ length xs + 1
append_long [] x = refl
append_long (a ∷ xs) x = let r : length (xs ++ x ∷ []) ≡ length xs + 1 = append_long xs x in omega arith

pub map_long : {A B : Type 0} (f : A → B) (xs : List A) → length (map f xs) ≡ length xs
map_long f [] = refl
map_long f (a ∷ xs) = ap suc (map_long f xs)

-- two places are the same, or not
pub same_or_other : (i j : ℕ) → (i ≡ j) ⊎ (i ≢ j)
same_or_other zero zero = inl refl
same_or_other zero (suc j) = inr (omega arith)
same_or_other (suc i) zero = inr (omega arith)
same_or_other (suc i) (suc j) = elim (same_or_other i j) [ inl e ↦ inl (ap suc e) | inr n ↦ inr (λ e. n (omega arith)) ]

-- a place that is set twice
pub set_twice : {A : Type 0} (xs : List A) (i : ℕ) (x y : A) → slice_set (slice_set xs i x) i y ≡ slice_set xs i y
set_twice [] i x y = refl
set_twice (a ∷ xs) zero x y = refl
set_twice (a ∷ xs) (suc i) x y = ap (λ (ys : List _). a ∷ ys) (set_twice xs i x y)
