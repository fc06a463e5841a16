-- The steps of a loop over a list that appends what is said of each element, and its end.
use Rattle.std.proofs.Common.{◌≡◌, ℕ, zero, suc, ◌+◌, ◌<◌, ◌≤◌, List, [], ◌∷◌, ◌++◌, map, take, drop, length, get_or, refl, sym, ◌∙◌, ap, append_assoc, append-nil, add-one, drop-cons, arith}
use Rattle.std.specs.Prelude.{flat_map}
use Rattle.std.specs.List.{enumerate_from}
use Rattle.std.proofs.lemmas.List.{drop_all}
use Rattle.std.proofs.lemmas.List.FromFn.{length-enumerate_from, get_or-enumerate_from}
use Rattle.pq_checks.specs.Earlier.{of_each_after}
use Rattle.pq_checks.proofs.SaidAfter.{each_said_more}

-- an element that the code looks up with a default value
get_again : {A : Type 0} (xs : List A) (i : ℕ) (d : A) → i < length xs → get_or xs i d ≡ get_or xs i (get_or xs i d)
get_again [] i d lt = absurd (omega arith)
get_again (x ∷ xs) zero d lt = refl
get_again (x ∷ xs) (suc i) d lt = get_again xs i d (omega arith)

module _ {A B : Type 0} (f : A → List B) where
  -- one more element
  pub each_more : (done after whole : List B) (xs : List A) (i : ℕ) (d : A) → i < length xs → d ≡ get_or xs i d → after ≡ done ++ f d
      → done ++ flat_map f (drop i xs) ≡ whole → after ++ flat_map f (drop (i + 1) xs) ≡ whole
  each_more done after whole xs i d lt is said so_far =
      let cut : drop i xs ≡ get_or xs i d ∷ drop (i + 1) xs = drop-cons xs i d lt ∙ ap (λ n. get_or xs i d ∷ drop n xs) (sym (add-one i)) in
      ap (λ ys. ys ++ flat_map f (drop (i + 1) xs)) (said ∙ ap (λ x. done ++ f x) is)
      ∙ append_assoc done (f (get_or xs i d)) (flat_map f (drop (i + 1) xs))
      ∙ ap (λ ys. done ++ flat_map f ys) (sym cut)
      ∙ so_far

  -- one more element that the code looks up with a default value
  pub each_more_or : (done after whole : List B) (xs : List A) (i : ℕ) (d : A) → i < length xs → after ≡ done ++ f (get_or xs i d)
      → done ++ flat_map f (drop i xs) ≡ whole → after ++ flat_map f (drop (i + 1) xs) ≡ whole
  each_more_or done after whole xs i d lt said so_far = each_more done after whole xs i (get_or xs i d) lt (get_again xs i d lt) said so_far

  -- no element is left
  pub each_all : (done whole : List B) (xs : List A) (i : ℕ) → length xs ≤ i → done ++ flat_map f (drop i xs) ≡ whole → done ≡ whole
  each_all done whole xs i past so_far =
      sym (append-nil done) ∙ ap (λ ys. done ++ flat_map f ys) (sym (drop_all i xs past)) ∙ so_far

module _ {A B : Type 0} (f : A → B) where
  -- one more element
  pub put_more : (done after whole : List B) (xs : List A) (i : ℕ) (d : A) → i < length xs → d ≡ get_or xs i d → after ≡ done ++ f d ∷ []
      → done ++ map f (drop i xs) ≡ whole → after ++ map f (drop (i + 1) xs) ≡ whole
  put_more done after whole xs i d lt is said so_far =
      let cut : drop i xs ≡ get_or xs i d ∷ drop (i + 1) xs = drop-cons xs i d lt ∙ ap (λ n. get_or xs i d ∷ drop n xs) (sym (add-one i)) in
      ap (λ ys. ys ++ map f (drop (i + 1) xs)) (said ∙ ap (λ x. done ++ f x ∷ []) is)
      ∙ append_assoc done (f (get_or xs i d) ∷ []) (map f (drop (i + 1) xs))
      ∙ ap (λ ys. done ++ map f ys) (sym cut)
      ∙ so_far

  -- no element is left
  pub put_all : (done whole : List B) (xs : List A) (i : ℕ) → length xs ≤ i → done ++ map f (drop i xs) ≡ whole → done ≡ whole
  put_all done whole xs i past so_far =
      sym (append-nil done) ∙ ap (λ ys. done ++ map f ys) (sym (drop_all i xs past)) ∙ so_far

module _ {X A B : Type 0} (f : A → List B) (h : X → A) where
  -- one more lent element
  pub seen_more : (done after whole : List B) (xs : List X) (i : ℕ) (d : X) → i < length xs → d ≡ get_or xs i d → after ≡ done ++ f (h d)
      → done ++ flat_map f (map h (drop i xs)) ≡ whole → after ++ flat_map f (map h (drop (i + 1) xs)) ≡ whole
  seen_more done after whole xs i d lt is said so_far =
      let cut : drop i xs ≡ get_or xs i d ∷ drop (i + 1) xs = drop-cons xs i d lt ∙ ap (λ n. get_or xs i d ∷ drop n xs) (sym (add-one i)) in
      ap (λ ys. ys ++ flat_map f (map h (drop (i + 1) xs))) (said ∙ ap (λ x. done ++ f (h x)) is)
      ∙ append_assoc done (f (h (get_or xs i d))) (flat_map f (map h (drop (i + 1) xs)))
      ∙ ap (λ ys. done ++ flat_map f (map h ys)) (sym cut)
      ∙ so_far

  -- no element is left
  pub seen_all : (done whole : List B) (xs : List X) (i : ℕ) → length xs ≤ i → done ++ flat_map f (map h (drop i xs)) ≡ whole → done ≡ whole
  seen_all done whole xs i past so_far =
      sym (append-nil done) ∙ ap (λ ys. done ++ flat_map f (map h ys)) (sym (drop_all i xs past)) ∙ so_far

module _ {A B : Type 0} (f : List A → A → List B) where
  -- one more element, said by those before it
  pub after_more : (done after whole : List B) (xs : List A) (i : ℕ) (d : A) → i < length xs → d ≡ get_or xs i d → after ≡ done ++ f (take i xs) d
      → done ++ of_each_after f (take i xs) (drop i xs) ≡ whole → after ++ of_each_after f (take (i + 1) xs) (drop (i + 1) xs) ≡ whole
  after_more done after whole xs i d lt is said so_far =
      ap (λ ys. ys ++ of_each_after f (take (i + 1) xs) (drop (i + 1) xs)) (said ∙ ap (λ x. done ++ f (take i xs) x) is)
      ∙ each_said_more f done whole xs i d lt so_far

  -- no element is left
  pub after_all : (done whole : List B) (xs : List A) (i : ℕ) → length xs ≤ i → done ++ of_each_after f (take i xs) (drop i xs) ≡ whole → done ≡ whole
  unfolding of_each_after
  after_all done whole xs i past so_far =
      sym (append-nil done) ∙ ap (λ ys. done ++ of_each_after f (take i xs) ys) (sym (drop_all i xs past)) ∙ so_far

-- ---- a list whose elements are numbered from 0

-- the element at `i` with its number
pub numbered_at : {A : Type 0} (xs : List A) (i : ℕ) (x : A) → i < length xs → x ≡ get_or xs i x → (i, x) ≡ get_or (enumerate_from 0 xs) i (i, x)
numbered_at {A = A} xs i x lt at =
    let from_zero : i ≡ 0 + i = omega arith in
    ap {B = ℕ × A} (λ y. (i, y)) at ∙ ap {B = ℕ × A} (λ n. (n, get_or xs i x)) from_zero ∙ sym (get_or-enumerate_from 0 xs i (i, x) lt)

pub numbered_within : {A : Type 0} (xs : List A) (i : ℕ) → i < length xs → i < length (enumerate_from 0 xs)
numbered_within xs i lt = omega (arith, length-enumerate_from 0 xs)

pub numbered_past : {A : Type 0} (xs : List A) (i : ℕ) → length xs ≤ i → length (enumerate_from 0 xs) ≤ i
numbered_past xs i past = omega (arith, length-enumerate_from 0 xs)

-- the same of an element that the code looks up with a default value
pub numbered_or : {A : Type 0} (xs : List A) (i : ℕ) (d : A) → i < length xs → (i, get_or xs i d) ≡ get_or (enumerate_from 0 xs) i (i, get_or xs i d)
numbered_or xs i d lt = numbered_at xs i (get_or xs i d) lt (get_again xs i d lt)
