-- Codes of texts, step by step.
use Rattle.std.proofs.Common.{◌≡◌, ℕ, zero, suc, ◌≤◌, ◌+◌, ◌-◌, ◌*◌, ◌/◌, List, length, get_or, refl, sym, ◌∙◌, ap, subst, arith}
use Rattle.pq_rules.specs.aux.Codes.{coded, word_at, words_code, bytes_code, text_code}

pub words_none : (bytes : List ℕ) → length bytes ≡ words_code bytes 0
unfolding words_code
words_none bytes = refl

words_suc : (bytes : List ℕ) (n : ℕ) → coded (words_code bytes n) (word_at bytes (8 * n)) ≡ words_code bytes (suc n)
unfolding words_code
words_suc bytes n = refl

bytes_suc : (bytes : List ℕ) (c at n : ℕ) → coded (bytes_code bytes c at n) (get_or bytes (at + n) 0) ≡ bytes_code bytes c at (suc n)
unfolding bytes_code
bytes_suc bytes c at n = refl

bytes_none : (bytes : List ℕ) (c at : ℕ) → c ≡ bytes_code bytes c at 0
unfolding bytes_code
bytes_none bytes c at = refl

-- the code with one word more
pub words_next : (bytes : List ℕ) (c n w new : ℕ) → c ≡ words_code bytes n → w ≡ word_at bytes (8 * n) → new ≡ coded c w → new ≡ words_code bytes (n + 1)
words_next bytes c n w new so word made =
    let next : suc n ≡ n + 1 = omega arith in
    made ∙ ap (λ (x : ℕ). coded x w) so ∙ ap (λ (x : ℕ). coded (words_code bytes n) x) word ∙ words_suc bytes n
    ∙ ap (λ (x : ℕ). words_code bytes x) next

-- the code of the words, before the bytes that make no word
pub bytes_start : (bytes : List ℕ) (c n words : ℕ) → n ≡ words → c ≡ words_code bytes n
    → c ≡ bytes_code bytes (words_code bytes words) (8 * words) (8 * words - 8 * words)
bytes_start bytes c n words all so =
    let none : 0 ≡ 8 * words - 8 * words = omega arith in
    so ∙ ap (λ (x : ℕ). words_code bytes x) all ∙ bytes_none bytes (words_code bytes words) (8 * words)
    ∙ ap (λ (x : ℕ). bytes_code bytes (words_code bytes words) (8 * words) x) none

-- the code with one byte more
pub bytes_next : (bytes : List ℕ) (start at c i b new : ℕ) → at ≤ i → c ≡ bytes_code bytes start at (i - at) → b ≡ get_or bytes i 0 → new ≡ coded c b
    → new ≡ bytes_code bytes start at (i + 1 - at)
bytes_next bytes start at c i b new past so byte made =
    let next : suc (i - at) ≡ i + 1 - at = omega arith in
    let here : i ≡ at + (i - at) = omega arith in
    made ∙ ap (λ (x : ℕ). coded x b) so ∙ ap (λ (x : ℕ). coded (bytes_code bytes start at (i - at)) x) (byte ∙ ap (λ (x : ℕ). get_or bytes x 0) here)
    ∙ bytes_suc bytes start at (i - at) ∙ ap (λ (x : ℕ). bytes_code bytes start at x) next

-- the code after all bytes
pub bytes_all : (bytes text : List ℕ) (c i : ℕ) → bytes ≡ text → i ≡ length bytes
    → c ≡ bytes_code bytes (words_code bytes (length bytes / 8)) (8 * (length bytes / 8)) (i - 8 * (length bytes / 8)) → c ≡ text_code text
unfolding text_code
bytes_all bytes text c i same all so =
    so ∙ ap (λ (x : ℕ). bytes_code bytes (words_code bytes (length bytes / 8)) (8 * (length bytes / 8)) (x - 8 * (length bytes / 8))) all
    ∙ ap (λ (b : List ℕ). bytes_code b (words_code b (length b / 8)) (8 * (length b / 8)) (length b - 8 * (length b / 8))) same
