-- Loops that gather what the items of a list give.
use Rattle.std.proofs.Common.{◌≡◌, ℕ, ◌+◌, ◌<◌, List, [], ◌∷◌, ◌++◌, length, drop, get_or, sym, ap, ◌∙◌, append_assoc}
use Rattle.std.specs.Prelude.{map}
use Rattle.std.proofs.lemmas.List.{at_drop_more, map-append}

-- one item more, where F of what is left completes the whole
pub gathered_more : {X Y : Type 0} (F : List X → List Y) (whole ys zs more : List Y) (xs : List X) (i : ℕ) (x : X) → i < length xs → x ≡ get_or xs i x
    → ((rest : List X) → F (x ∷ rest) ≡ zs ++ F rest) → more ≡ ys ++ zs → ys ++ F (drop i xs) ≡ whole → more ++ F (drop (i + 1) xs) ≡ whole
gathered_more {X} {Y} F whole ys zs more xs i x within is step adds so_far =
    let rest = drop (i + 1) xs in
    let left : F (drop i xs) ≡ zs ++ F rest = at_drop_more F xs i x within ∙ ap (λ (y : X). F (y ∷ rest)) (sym is) ∙ step rest in
    ap (λ (ts : List Y). ts ++ F rest) adds ∙ append_assoc ys zs (F rest) ∙ ap (λ (ts : List Y). ys ++ ts) (sym left) ∙ so_far

-- one value more
pub values_more : {X Y : Type 0} (f : X → Y) (old new : List X) (x : X) (y : Y) → new ≡ old ++ x ∷ [] → f x ≡ y → map f new ≡ map f old ++ y ∷ []
values_more {X} {Y} f old new x y is e = ap (map f) is ∙ map-append f old (x ∷ []) ∙ ap (λ (z : Y). map f old ++ z ∷ []) e

-- a text that is added in three parts
pub three_added : (old one two three a b c : List ℕ) → one ≡ old ++ a → two ≡ one ++ b → three ≡ two ++ c → three ≡ old ++ (a ++ (b ++ c))
three_added old one two three a b c ea eb ec =
    ec ∙ ap (λ (ts : List ℕ). ts ++ c) (eb ∙ ap (λ (ts : List ℕ). ts ++ b) ea ∙ append_assoc old a b) ∙ append_assoc old (a ++ b) c ∙ ap (λ (ts : List ℕ). old ++ ts) (append_assoc a b c)
