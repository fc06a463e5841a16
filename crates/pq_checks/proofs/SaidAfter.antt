-- What is said of each element of a list by those before it: the step of a loop, and membership.
use Rattle.std.proofs.Common.{◌≡◌, ℕ, zero, suc, ◌+◌, ◌<◌, List, [], ◌∷◌, ◌++◌, take, drop, length, get_or, refl, sym, ◌∙◌, ap, subst, inl, inr, arith, append_assoc, append-nil, add-one, drop-cons}
use Rattle.std.specs.Prelude.{◌⊎◌, Contains}
use Rattle.std.proofs.lemmas.List.{take_more}
use Rattle.std.proofs.lemmas.List.Elements.{Contains-append_cases, Contains-append_left, Contains-append_right}
use Rattle.pq_checks.specs.Earlier.{of_each_after}

module _ {A B : Type 0} (f : List A → A → List B) where
  -- what is said of the elements from `i` on
  pub of_each_after_more : (xs : List A) (i : ℕ) (d : A) → i < length xs
      → of_each_after f (take i xs) (drop i xs) ≡ f (take i xs) (get_or xs i d) ++ of_each_after f (take (i + 1) xs) (drop (i + 1) xs)
  unfolding of_each_after
  of_each_after_more xs i d h =
      let cut : drop i xs ≡ get_or xs i d ∷ drop (i + 1) xs = drop-cons xs i d h ∙ ap (λ n. get_or xs i d ∷ drop n xs) (sym (add-one i)) in
      ap (of_each_after f (take i xs)) cut ∙ ap (λ ys. f (take i xs) (get_or xs i d) ++ of_each_after f ys (drop (i + 1) xs)) (sym (take_more xs i d h))

  -- the step of a loop that appends what is said of the element at `i`
  pub each_said_more : (done whole : List B) (xs : List A) (i : ℕ) (d : A) → i < length xs
      → done ++ of_each_after f (take i xs) (drop i xs) ≡ whole
      → (done ++ f (take i xs) (get_or xs i d)) ++ of_each_after f (take (i + 1) xs) (drop (i + 1) xs) ≡ whole
  each_said_more done whole xs i d h e =
      append_assoc done (f (take i xs) (get_or xs i d)) (of_each_after f (take (i + 1) xs) (drop (i + 1) xs)) ∙ ap (λ ys. done ++ ys) (sym (of_each_after_more xs i d h)) ∙ e

  -- `IsSaid earlier xs x` is that `x` is said of an element of `xs`, where `earlier` come before
  -- them
  abbrev IsSaid : List A → List A → B → Type 0
  IsSaid earlier xs x = (i : ℕ) × (y : A) × (i < length xs) × (get_or xs i y ≡ y) × Contains (f (earlier ++ take i xs) y) x

  pub said_is_of_one : (earlier xs : List A) (x : B) → Contains (of_each_after f earlier xs) x → IsSaid earlier xs x
  unfolding of_each_after
  said_is_of_one earlier [] x (k, lt, is) = absurd (omega arith)
  said_is_of_one earlier (z ∷ zs) x h =
      by (said_is_of_one (earlier ++ z ∷ []) zs x) (Contains-append_cases (f earlier z) (of_each_after f (earlier ++ z ∷ []) zs) x h)
    where
      by : (Contains (of_each_after f (earlier ++ z ∷ []) zs) x → IsSaid (earlier ++ z ∷ []) zs x)
          → (Contains (f earlier z) x ⊎ Contains (of_each_after f (earlier ++ z ∷ []) zs) x) → IsSaid earlier (z ∷ zs) x
      by rest (inl here) = (zero, z, omega arith, refl, subst (λ (es : List A). Contains (f es z) x) (sym (append-nil earlier)) here)
      by rest (inr there) =
          let r = rest there in
          (suc r.0, r.1, omega (arith, r.2), r.3, subst (λ (es : List A). Contains (f es r.1) x) (append_assoc earlier (z ∷ []) (take r.0 zs)) r.4)

  pub of_one_is_said : (earlier xs : List A) (x : B) → IsSaid earlier xs x → Contains (of_each_after f earlier xs) x
  unfolding of_each_after
  of_one_is_said earlier [] x (i, y, lt, is, h) = absurd (omega arith)
  of_one_is_said earlier (z ∷ zs) x (zero, y, lt, is, h) =
      let at : Contains (f earlier y) x = subst (λ (es : List A). Contains (f es y) x) (append-nil earlier) h in
      Contains-append_left (f earlier z) (of_each_after f (earlier ++ z ∷ []) zs) x (subst (λ (w : A). Contains (f earlier w) x) (sym is) at)
  of_one_is_said earlier (z ∷ zs) x (suc i, y, lt, is, h) =
      Contains-append_right (f earlier z) (of_each_after f (earlier ++ z ∷ []) zs) x
      (of_one_is_said (earlier ++ z ∷ []) zs x (i, y, omega arith, is, subst (λ (es : List A). Contains (f es y) x) (sym (append_assoc earlier (z ∷ []) (take i zs))) h))
