-- A list that has each of its items once stays as it is where each is kept at its first place alone.
use Rattle.std.proofs.Common.{◌≡◌, ℕ, Bool, true, false, cond, not, List, [], ◌∷◌, refl, sym, ap, subst, ◌∙◌}
use Rattle.std.specs.Prelude.{filter}
use Rattle.pq_links.specs.Once.{each_once}
use Rattle.pq_links.specs.Visibility.{firsts}
use Rattle.pq_links.specs.aux.Adding.{is_not}
use Rattle.pq_names.proofs.Cases.{either}
use Rattle.pq_links.proofs.Adding.{filter_in, filter_both, filter_same, bytes_exact}

-- two filters take turns
filters_swap : {A : Type 0} (p q : A → Bool) → (xs : List A) → filter p (filter q xs) ≡ filter q (filter p xs)
filters_swap p q xs =
    filter_both p q xs
    ∙ filter_same (λ y. cond (q y) (p y) false) (λ y. cond (p y) (q y) false) (λ y. swap (q y) (p y)) xs
    ∙ sym (filter_both q p xs)
  where
    swap : (a b : Bool) → cond a b false ≡ cond b a false
    swap true true = refl
    swap true false = refl
    swap false true = refl
    swap false false = refl

module _ {A : Type 0} (same : A → A → Bool) (exact : (x y : A) → same x y ≡ true → x ≡ y) where
  -- an item that a test refuses is the same as none that it lets through
  refused : (p : A → Bool) (x : A) → p x ≡ false → (y : A) → p y ≡ true → not (same x y) ≡ true
  refused p x refuses y lets =
      either (same x y) (λ b. not b ≡ true)
      (λ s. let it : p x ≡ true = subst (λ z. p z ≡ true) (sym (exact x y s)) lets in sym (ap not it) ∙ ap not refuses)
      (λ s. refl)

  filter_once : (p : A → Bool) (xs : List A) → each_once same (filter p xs) ≡ filter p (each_once same xs)
  unfolding each_once
  filter_once p [] = refl
  filter_once p (x ∷ xs) =
      either (p x)
      (λ b. each_once same (cond b (x ∷ filter p xs) (filter p xs)) ≡ cond b (x ∷ filter p (filter (λ y. not (same x y)) (each_once same xs))) (filter p (filter (λ y. not (same x y)) (each_once same xs))))
      (λ e. ap (λ ys. x ∷ filter (λ y. not (same x y)) ys) (filter_once p xs) ∙ ap (λ ys. x ∷ ys) (filters_swap (λ y. not (same x y)) p (each_once same xs)))
      (λ e. filter_once p xs ∙ sym (filter_in p (λ y. not (same x y)) (refused p x e) (each_once same xs)))

  pub once_twice : (xs : List A) → each_once same (each_once same xs) ≡ each_once same xs
  unfolding each_once
  once_twice [] = refl
  once_twice (x ∷ xs) =
      ap (λ ys. x ∷ filter (λ y. not (same x y)) ys) (filter_once (λ y. not (same x y)) (each_once same xs) ∙ ap (filter (λ y. not (same x y))) (once_twice xs))
      ∙ ap (λ ys. x ∷ ys) (filter_in (λ y. not (same x y)) (λ y. not (same x y)) (λ y t. t) (each_once same xs))

-- names that are each there once, once more
pub firsts_twice : (xs : List (List ℕ)) → firsts (firsts xs) ≡ firsts xs
firsts_twice xs = once_twice _ bytes_exact xs

-- names at their first places alone are each there once
pub once_of : (names xs : List (List ℕ)) → names ≡ firsts xs → firsts names ≡ names
once_of names xs is = ap firsts is ∙ firsts_twice xs ∙ sym is

-- a file before names that are each there once
pub firsts_after : (f : List ℕ) (xs : List (List ℕ)) → firsts xs ≡ xs → f ∷ filter (is_not f) xs ≡ firsts (f ∷ xs)
unfolding each_once
firsts_after f xs once = ap (λ ys. f ∷ filter (is_not f) ys) (sym once)
