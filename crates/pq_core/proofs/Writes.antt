-- Lemmas on lists: a place that is written, and a list without its first element.
use Rattle.std.proofs.Common.{◌≡◌, ℕ, zero, suc, ◌+◌, ◌<◌, List, [], ◌∷◌, length, drop, slice_get, slice_set, Some, None, refl, sym, ◌∙◌, ap, arith}
use Rattle.pq_core.proofs.Lists.{some_one}

pub nothing_there : {A P : Type 0} (y : A) → None ≡ Some y → P
nothing_there y h = cc

-- a list whose place is written with its own element is the same
pub set_back : {A : Type 0} (xs : List A) (i : ℕ) (x : A) → slice_get xs i ≡ Some x → slice_set xs i x ≡ xs
set_back [] i x h = refl
set_back (a ∷ xs) zero x h = ap (λ y. y ∷ xs) (sym (some_one a x h))
set_back (a ∷ xs) (suc i) x h = ap (λ ys. a ∷ ys) (set_back xs i x h)

pub drop_get : {A : Type 0} (xs : List A) (i : ℕ) → slice_get (drop 1 xs) i ≡ slice_get xs (suc i)
drop_get [] i = refl
drop_get (x ∷ xs) i = refl

pub drop_long : {A : Type 0} (xs : List A) → 0 < length xs → length (drop 1 xs) + 1 ≡ length xs
drop_long [] h = absurd (omega arith)
drop_long (x ∷ xs) h = omega arith

pub one_entry : {A : Type 0} (xs : List A) (i : ℕ) (x y : A) → slice_get xs i ≡ Some x → slice_get xs i ≡ Some y → x ≡ y
one_entry xs i x y h k = some_one x y (sym h ∙ k)
