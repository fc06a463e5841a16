-- Items that are added one after another, each if it is not there yet, are each at its first place:
-- `add_firsts same [] xs` is `each_once same xs`, if the test `same` holds of equal items alone.
use Rattle.std.proofs.Common.{◌≡◌, ℕ, Bool, true, false, cond, not, ◌||◌, List, [], ◌∷◌, ◌++◌, refl, sym, ap, subst, ◌∙◌, append-nil, append_assoc}
use Rattle.std.specs.Prelude.{bytes_eq, filter}
use Rattle.std.specs.BTreeMap.{is_at}
use Rattle.std.specs.BTreeSet.{BTreeSet, contains}
use Rattle.std.specs.Ordering.{eq_by_cmp}
use Rattle.std.specs.declared.cmp.Ordering.{Ordering}
use Rattle.std.proofs.lemmas.Map.Text.{is_eq-slice_cmp}
use Rattle.std.proofs.lemmas.Slice.Eq.{bytes_eq-Decides}
use Rattle.pq_names.proofs.Cases.{either}
use Rattle.pq_links.specs.Once.{each_once}
use Rattle.pq_links.specs.Visibility.{firsts}
use Rattle.pq_links.specs.aux.Adding.{has, add_first, add_firsts, Sees, same_name}

module _ {A : Type 0} (same : A → A → Bool) where
  pub has_push : (ks : List A) (x q : A) → has same (ks ++ x ∷ []) q ≡ cond (same x q) true (has same ks q)
  has_push [] x q = one (same x q)
    where
      one : (b : Bool) → (b || false) ≡ cond b true false
      one true = refl
      one false = refl
  has_push (k ∷ ks) x q = ap (λ b. same k q || b) (has_push ks x q) ∙ swap (same k q) (same x q) (has same ks q)
    where
      swap : (a b c : Bool) → (a || cond b true c) ≡ cond b true (a || c)
      swap true true c = refl
      swap true false c = refl
      swap false true c = refl
      swap false false c = refl

  abbrev fresh : List A → A → Bool
  fresh ks y = not (has same ks y)

  pub adds_append : (ks xs ys : List A) → add_firsts same ks (xs ++ ys) ≡ add_firsts same (add_firsts same ks xs) ys
  adds_append ks [] ys = refl
  adds_append ks (x ∷ xs) ys = adds_append (add_first same ks x) xs ys

-- a set with one more item sees one more
pub sees_push : {A : Type 0} (order : A → A → Ordering) (old new : BTreeSet A) (ks : List A) (x : A) → Sees order old ks
    → ((q : A) → contains order new q ≡ cond (is_at (order x) q) true (contains order old q))
    → Sees order new (ks ++ x ∷ [])
sees_push order old new ks x sees updates q =
    updates q ∙ ap (λ b. cond (eq_by_cmp order x q) true b) (sees q) ∙ sym (has_push (eq_by_cmp order) ks x q)

-- a set with the item has the same items
pub sees_same : {A : Type 0} (order : A → A → Ordering) (ks : List A) (x : A) → has (eq_by_cmp order) ks x ≡ true → add_first (eq_by_cmp order) ks x ≡ ks
sees_same order ks x e = ap (λ b. cond b ks (ks ++ x ∷ [])) e

-- of two filters the second lets through all that the first does
pub filter_in : {A : Type 0} (p q : A → Bool) → ((y : A) → p y ≡ true → q y ≡ true) → (xs : List A) → filter p (filter q xs) ≡ filter p xs
filter_in p q sub [] = refl
filter_in p q sub (x ∷ xs) = either (q x) (λ b. filter p (cond b (x ∷ filter q xs) (filter q xs)) ≡ cond (p x) (x ∷ filter p xs) (filter p xs))
    (λ e. ap (λ ys. cond (p x) (x ∷ ys) ys) (filter_in p q sub xs))
    (λ e. filter_in p q sub xs ∙ either (p x) (λ b. filter p xs ≡ cond b (x ∷ filter p xs) (filter p xs)) (λ t. let f = sub x t in cc) (λ t. refl))

pub filter_same : {A : Type 0} (p q : A → Bool) → ((y : A) → p y ≡ q y) → (xs : List A) → filter p xs ≡ filter q xs
filter_same p q alike [] = refl
filter_same p q alike (x ∷ xs) = ap (λ b. cond b (x ∷ filter p xs) (filter p xs)) (alike x) ∙ ap (λ ys. cond (q x) (x ∷ ys) ys) (filter_same p q alike xs)

pub filter_both : {A : Type 0} (p q : A → Bool) → (xs : List A) → filter p (filter q xs) ≡ filter (λ y. cond (q y) (p y) false) xs
filter_both p q [] = refl
filter_both p q (x ∷ xs) = either (q x) (λ b. filter p (cond b (x ∷ filter q xs) (filter q xs)) ≡ cond (cond b (p x) false) (x ∷ filter (λ y. cond (q y) (p y) false) xs) (filter (λ y. cond (q y) (p y) false) xs))
    (λ e. ap (λ ys. cond (p x) (x ∷ ys) ys) (filter_both p q xs))
    (λ e. filter_both p q xs)

turn : (a b : Bool) → not (cond a true b) ≡ cond (not a) (not b) false
turn true b = refl
turn false b = refl

module _ {A : Type 0} (same : A → A → Bool) (exact : (x y : A) → same x y ≡ true → x ≡ y) where
  -- items that are new to a list that has `x` are not `x`
  not_that : (ks : List A) (x : A) → has same ks x ≡ true → (y : A) → fresh same ks y ≡ true → not (same x y) ≡ true
  not_that ks x e y t =
      either (same x y) (λ b. not b ≡ true)
      (λ s. let h : has same ks y ≡ true = subst (λ z. has same ks z ≡ true) (exact x y s) e in let no : not true ≡ true = ap not (sym h) ∙ t in no)
      (λ s. refl)

  pub adds_firsts : (ks xs : List A) → add_firsts same ks xs ≡ ks ++ filter (fresh same ks) (each_once same xs)
  unfolding each_once
  adds_firsts ks [] = sym (append-nil ks)
  adds_firsts ks (x ∷ xs) =
      either (has same ks x)
      (λ b. add_firsts same (cond b ks (ks ++ x ∷ [])) xs ≡ ks ++ cond (not b) (x ∷ filter (fresh same ks) (filter (λ y. not (same x y)) (each_once same xs))) (filter (fresh same ks) (filter (λ y. not (same x y)) (each_once same xs))))
      (λ e. adds_firsts ks xs ∙ ap (λ ys. ks ++ ys) (sym (filter_in (fresh same ks) (λ y. not (same x y)) (not_that ks x e) (each_once same xs))))
      (λ e. adds_firsts (ks ++ x ∷ []) xs
      ∙ append_assoc ks (x ∷ []) (filter (fresh same (ks ++ x ∷ [])) (each_once same xs))
      ∙ ap (λ ys. ks ++ x ∷ ys) (filter_same (fresh same (ks ++ x ∷ [])) (λ y. cond (not (same x y)) (fresh same ks y) false) (λ y. ap not (has_push same ks x y) ∙ turn (same x y) (has same ks y)) (each_once same xs)
      ∙ sym (filter_both (fresh same ks) (λ y. not (same x y)) (each_once same xs))))

  filter_all : (xs : List A) → filter (fresh same []) xs ≡ xs
  filter_all [] = refl
  filter_all (x ∷ xs) = ap (λ ys. x ∷ ys) (filter_all xs)

  pub added_once : (xs : List A) → add_firsts same [] xs ≡ each_once same xs
  added_once xs = adds_firsts [] xs ∙ filter_all (each_once same xs)

-- tests that agree keep the same items
pub once_alike : {A : Type 0} (p q : A → A → Bool) → ((x y : A) → p x y ≡ q x y) → (xs : List A) → each_once p xs ≡ each_once q xs
unfolding each_once
once_alike p q alike [] = refl
once_alike p q alike (x ∷ xs) =
    ap (λ ys. x ∷ filter (λ y. not (p x y)) ys) (once_alike p q alike xs)
    ∙ ap (λ ys. x ∷ ys) (filter_same (λ y. not (p x y)) (λ y. not (q x y)) (λ y. ap not (alike x y)) (each_once q xs))

-- names whose bytes are equal are the same
pub bytes_exact : (x y : List ℕ) → bytes_eq x y ≡ true → x ≡ y
bytes_exact x y e = (bytes_eq-Decides x y).0 e

-- names are the same by their order where their bytes are
pub name_alike : (x y : List ℕ) → same_name x y ≡ bytes_eq x y
name_alike x y = is_eq-slice_cmp x y

pub name_exact : (x y : List ℕ) → same_name x y ≡ true → x ≡ y
name_exact x y e = bytes_exact x y (sym (name_alike x y) ∙ e)

-- names that are added one after another are each at its first place
pub first_names : (xs : List (List ℕ)) → add_firsts same_name [] xs ≡ firsts xs
first_names xs = added_once same_name name_exact xs ∙ once_alike same_name bytes_eq name_alike xs
