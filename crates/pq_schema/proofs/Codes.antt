-- The loop that makes the code of a name from its last bytes.
use Rattle.std.proofs.Common.{◌≡◌, ◌⊎◌, inl, inr, ℕ, zero, suc, ◌+◌, ◌-◌, ◌<◌, ◌≤◌, ◌%◌, ◌^◌, List, [], ◌∷◌, ◌++◌, get_or, length, take, reverse, refl, sym, ap, ◌∙◌, arith}
use Rattle.std.proofs.Math.Seq.{take-suc}
use Rattle.std.proofs.lemmas.List.{length-reverse, reverse-append, take_all}
use Rattle.std.specs.List.{concat}
use Rattle.pq_schema.specs.aux.NameCodes.{coded, code_from, code_of, tail_code}

-- one more byte from the end
pub code_more : (c b n i total : ℕ) (old new : List ℕ) → i < n → old ≡ new ++ b ∷ [] → code_from c (take (n - i) (reverse old)) ≡ total
    → code_from (coded c b) (take (n - (i + 1)) (reverse new)) ≡ total
unfolding code_from
code_more c b n i total old new within is so_far =
    let last : reverse old ≡ b ∷ reverse new = ap (λ (xs : List ℕ). reverse xs) is ∙ reverse-append new (b ∷ []) in
    let left : n - i ≡ suc (n - (i + 1)) = omega arith in
    sym (ap (λ (xs : List ℕ). code_from c (take (n - i) xs)) last ∙ ap (λ (k : ℕ). code_from c (take k (b ∷ reverse new))) left)
    ∙ so_far

-- enough bytes were taken
pub code_full : (c n i total : ℕ) (bytes : List ℕ) → n ≤ i → code_from c (take (n - i) bytes) ≡ total → c ≡ total
unfolding code_from
code_full c n i total bytes past so_far =
    let none : n - i ≡ 0 = omega arith in
    sym (ap (λ (k : ℕ). code_from c (take k bytes)) none) ∙ so_far

-- of two numbers of bytes that are both all of them, or one number, each takes the same
pub take_least : (k most : ℕ) (bytes : List ℕ) → k ≤ most → k ≤ length bytes → (k ≡ most) ⊎ (k ≡ length bytes) → take k bytes ≡ take most bytes
take_least k most bytes first second one = elim one [
  | inl same ↦ ap (λ (n : ℕ). take n bytes) same
  | inr all ↦ take_all k bytes (omega (arith, all)) ∙ sym (take_all most bytes (omega (arith, all, first)))
]

-- one more byte of a text from its end
pub code_step : (code new most taken i total : ℕ) (text : List ℕ) → i < taken → taken ≤ length text
    → new ≡ coded code (get_or text (length text - 1 - i) 0)
    → code_from code (take (taken - i) (reverse (take (length text - i) text))) ≡ total
    → code_from new (take (taken - (i + 1)) (reverse (take (length text - (i + 1)) text))) ≡ total
code_step code new most taken i total text within few is so_far =
    let at = length text - 1 - i in
    let more : length text - i ≡ suc at = omega (arith, within, few) in
    let less : length text - (i + 1) ≡ at = omega (arith, within, few) in
    let last : take (length text - i) text ≡ take at text ++ get_or text at 0 ∷ [] = ap (λ (n : ℕ). take n text) more ∙ take-suc text at 0 (omega (arith, within, few)) in
    ap (λ (k : ℕ). code_from k (take (taken - (i + 1)) (reverse (take (length text - (i + 1)) text)))) is
    ∙ ap (λ (n : ℕ). code_from (coded code (get_or text at 0)) (take (taken - (i + 1)) (reverse (take n text)))) less
    ∙ code_more code (get_or text at 0) taken i total (take (length text - i) text) (take at text) within last so_far

-- a code goes on over two lists
code_append : (c : ℕ) (xs ys : List ℕ) → code_from c (xs ++ ys) ≡ code_from (code_from c xs) ys
unfolding code_from
code_append c [] ys = refl
code_append c (x ∷ xs) ys = code_append (coded c x) xs ys

-- what is taken of two lists
take_both : (n : ℕ) (xs ys : List ℕ) → take n (xs ++ ys) ≡ take n xs ++ take (n - length xs) ys
take_both zero [] ys = refl
take_both (suc n) [] ys = let same : suc n ≡ suc n - 0 = omega arith in ap (λ (k : ℕ). take k ys) same
take_both zero (x ∷ xs) ys = let none : 0 ≡ zero - length (x ∷ xs) = omega arith in ap (λ (k : ℕ). take k ys) none
take_both (suc n) (x ∷ xs) ys =
    let same : n - length xs ≡ suc n - length (x ∷ xs) = omega arith in
    ap (λ (zs : List ℕ). x ∷ zs) (take_both n xs ys ∙ ap (λ (k : ℕ). take n xs ++ take k ys) same)

-- one more piece from the end
pub code_piece : (c new left total : ℕ) (before text : List ℕ) → new ≡ code_from c (take left (reverse text)) → code_from c (take left (reverse (before ++ text))) ≡ total
    → code_from new (take (left - length text) (reverse before)) ≡ total
code_piece c new left total before text is so_far =
    ap (λ (k : ℕ). code_from k (take (left - length text) (reverse before))) is
    ∙ ap (λ (n : ℕ). code_from (code_from c (take left (reverse text))) (take (left - n) (reverse before))) (sym (length-reverse text))
    ∙ sym (code_append c (take left (reverse text)) (take (left - length (reverse text)) (reverse before)))
    ∙ ap (λ (bytes : List ℕ). code_from c bytes) (sym (take_both left (reverse text) (reverse before)))
    ∙ ap (λ (bytes : List ℕ). code_from c (take left bytes)) (sym (reverse-append before text))
    ∙ so_far

-- no parts have no bytes
pub none_joined : (parts : List (List ℕ)) → length parts ≡ 0 → concat parts ≡ []
none_joined [] none = refl
none_joined (p ∷ ps) none = absurd (omega (arith, none))
