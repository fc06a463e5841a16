-- Elements of a list by their index: whether one is there, and where one more element is pushed.
use Rattle.std.proofs.Common.{◌≡◌, ℕ, ◌⊎◌, List, [], ◌∷◌, ◌++◌, length, slice_get, Option, Some, None, zero, suc, refl, sym, ap, inl, inr}
use Rattle.std.specs.Prelude.{Contains}
use Rattle.std.proofs.lemmas.Option.{same_Some, slice_get_read, slice_get_within, get_or_from_slice_get}

module _ {X : Type 0} where
  -- what a list has at an index, it has there after a push
  pub push_keeps : (xs : List X) (y : X) (i : ℕ) (x : X) → slice_get xs i ≡ Some x → slice_get (xs ++ y ∷ []) i ≡ Some x
  push_keeps [] y i x is = cc
  push_keeps (z ∷ zs) y zero x is = is
  push_keeps (z ∷ zs) y (suc i) x is = push_keeps zs y i x is

  -- what was pushed is at the end
  pub push_last : (xs : List X) (y : X) → slice_get (xs ++ y ∷ []) (length xs) ≡ Some y
  push_last [] y = refl
  push_last (z ∷ zs) y = push_last zs y

  -- what a list has after a push, it had before, or it is what was pushed
  pub push_cases : (xs : List X) (y : X) (i : ℕ) (x : X) → slice_get (xs ++ y ∷ []) i ≡ Some x → (slice_get xs i ≡ Some x) ⊎ ((i ≡ length xs) × (y ≡ x))
  push_cases [] y zero x is = inr (refl, same_Some y x is)
  push_cases [] y (suc i) x is = inl is
  push_cases (z ∷ zs) y zero x is = inl is
  push_cases (z ∷ zs) y (suc i) x is = elim (push_cases zs y i x is) [ inl before ↦ inl before | inr last ↦ inr (ap suc last.0, last.1) ]

-- a text that is among others is at some index
pub place_of : (texts : List (List ℕ)) (text : List ℕ) → Contains texts text → (id : ℕ) × (slice_get texts id ≡ Some text)
place_of texts text held = (held.0, slice_get_read texts (length texts) held.0 text refl held.1 (sym held.2))

-- a text that is at some index is among the texts
pub among : (texts : List (List ℕ)) (text : List ℕ) (id : ℕ) → slice_get texts id ≡ Some text → Contains texts text
among texts text id is = (id, slice_get_within texts id text is, get_or_from_slice_get texts id text text is)

-- a text that has no number is not among the texts
pub not_among : (number : Option ℕ) (texts : List (List ℕ)) (text : List ℕ) → number ≡ None → ((id : ℕ) → slice_get texts id ≡ Some text → number ≡ Some id) → Contains texts text → ⊥
not_among number texts text is finds held =
    let place = place_of texts text held in
    let some : number ≡ Some place.0 = finds place.0 place.1 in
    absurd (cc (is, some))
