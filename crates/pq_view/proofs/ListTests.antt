-- Tests of the items of a list.
use Rattle.std.proofs.Common.{◌≡◌, ℕ, List, [], ◌∷◌, ◌++◌, Bool, true, false, refl, sym, ◌∙◌, ap}
use Rattle.std.specs.Prelude.{Option, Some, None, ◌&&◌, ◌||◌, bytes_eq, map}
use Rattle.std.specs.List.{filter, list_any, cons_option}
use Rattle.std.proofs.lemmas.Cmp.{nat_list_eq_equiv}
use Rattle.std.proofs.lemmas.Map.Made.{alike_from_same, is_member-filter}
use Rattle.std.proofs.lemmas.List.Folds.{list_any-append}
use Rattle.std.proofs.lemmas.Slice.Eq.{bytes_eq-Decides}

-- what two tests are that do not hold
pub or_false : (a b : Bool) → (a || b) ≡ false → (a ≡ false) × (b ≡ false)
or_false true b h = absurd (cc)
or_false false b h = (refl, h)

pub false_or : (a b : Bool) → a ≡ false → b ≡ false → (a || b) ≡ false
false_or a b e f = rw (e, f)

pub or_true : (a b : Bool) → b ≡ true → (a || b) ≡ true
or_true true b h = refl
or_true false b h = h

-- equal texts pass
pub bytes_same : (a b : List ℕ) → a ≡ b → bytes_eq a b ≡ true
bytes_same a b = (bytes_eq-Decides a b).1

pub bytes_is : (a b : List ℕ) → bytes_eq a b ≡ true → a ≡ b
bytes_is a b = (bytes_eq-Decides a b).0

-- a test that never holds of two lists holds of neither
pub append_false : {X : Type 0} (p : X → Bool) (xs ys : List X) → list_any p (xs ++ ys) ≡ false → (list_any p xs ≡ false) × (list_any p ys ≡ false)
append_false p xs ys h = or_false (list_any p xs) (list_any p ys) (sym (list_any-append p xs ys) ∙ h)

-- a test over images
pub list_any-map : {X Y : Type 0} (p : Y → Bool) (f : X → Y) (xs : List X) → list_any p (map f xs) ≡ list_any (λ x. p (f x)) xs
list_any-map p f [] = refl
list_any-map p f (x ∷ xs) = ap (λ b. p (f x) || b) (list_any-map p f xs)

-- two tests at once
pub both_false : {X : Type 0} (p q : X → Bool) (xs : List X) → list_any (λ x. p x || q x) xs ≡ false → (list_any p xs ≡ false) × (list_any q xs ≡ false)
both_false p q [] h = (refl, refl)
both_false p q (x ∷ xs) h =
    let s = or_false (p x || q x) (list_any (λ x. p x || q x) xs) h in
    let t = or_false (p x) (q x) s.0 in
    let u = both_false p q xs s.1 in
    (false_or (p x) (list_any p xs) t.0 u.0, false_or (q x) (list_any q xs) t.1 u.1)

-- a weaker test
pub any_weaker : {X : Type 0} (p q : X → Bool) → ((x : X) → p x ≡ true → q x ≡ true) → (xs : List X) → list_any p xs ≡ true → list_any q xs ≡ true
any_weaker p q sub [] h = absurd (cc)
any_weaker p q sub (x ∷ xs) h = elim (p x) as (λ b. p x ≡ b → list_any q (x ∷ xs) ≡ true) [
  | true ↦ λ e. ap (λ t. t || list_any q xs) (sub x e)
  | false ↦ λ e. or_true (q x) (list_any q xs) (any_weaker p q sub xs (sym (ap (λ t. t || list_any p xs) e) ∙ h))
] refl

-- `option_any p o` is whether `o` has what passes
abbrev pub option_any : {X : Type 0} → (X → Bool) → Option X → Bool
option_any p None = false
option_any p (Some x) = p x

pub list_any-cons_option : {X : Type 0} (p : X → Bool) (o : Option X) (xs : List X) → list_any p (cons_option o xs) ≡ (option_any p o || list_any p xs)
list_any-cons_option p None xs = refl
list_any-cons_option p (Some x) xs = refl

-- which texts pass a test
pub filtered : (p : List ℕ → Bool) (q : List ℕ) (xs : List (List ℕ)) → list_any (bytes_eq q) (filter p xs) ≡ (list_any (bytes_eq q) xs && p q)
filtered p q xs = is_member-filter nat_list_eq_equiv p q (alike_from_same bytes_eq-Decides p q) xs
