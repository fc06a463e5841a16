-- The bytes before a line's terminator.
use Rattle.std.proofs.Common.{◌≡◌, ℕ, zero, suc, ◌<◌, ◌≤◌, ◌==◌, ◌||◌, Bool, true, false, cond, List, [], ◌∷◌, length, get_or, refl, arith}
use Rattle.pq_lex.specs.Lines.{line_len}

abbrev pub is_break : ℕ → Bool
is_break b = b == 10 || b == 13

pub len_within : (xs : List ℕ) → line_len xs ≤ length xs
unfolding line_len
len_within [] = omega arith
len_within (x ∷ xs) = elim (is_break x) as (λ b. cond b 0 (suc (line_len xs)) ≤ length (x ∷ xs)) [ true ↦ omega arith | false ↦ omega (arith, len_within xs) ]

plain_go : (x : ℕ) (xs : List ℕ) → ((i : ℕ) → i < line_len xs → is_break (get_or xs i 0) ≡ false) → (b : Bool) → is_break x ≡ b → (i : ℕ) → i < cond b 0 (suc (line_len xs)) → is_break (get_or (x ∷ xs) i 0) ≡ false
plain_go x xs next true e i h = absurd (omega (arith, h))
plain_go x xs next false e zero h = e
plain_go x xs next false e (suc i) h = next i (omega (arith, h))

pub len_plain : (xs : List ℕ) (i : ℕ) → i < line_len xs → is_break (get_or xs i 0) ≡ false
unfolding line_len
len_plain [] i h = absurd (omega (arith, h))
len_plain (x ∷ xs) i h = plain_go x xs (len_plain xs) (is_break x) refl i h

break_go : (x : ℕ) (xs : List ℕ) → (line_len xs < length xs → is_break (get_or xs (line_len xs) 0) ≡ true) → (b : Bool) → is_break x ≡ b → cond b 0 (suc (line_len xs)) < length (x ∷ xs) → is_break (get_or (x ∷ xs) (cond b 0 (suc (line_len xs))) 0) ≡ true
break_go x xs next true e h = e
break_go x xs next false e h = next (omega (arith, h))

pub len_break : (xs : List ℕ) → line_len xs < length xs → is_break (get_or xs (line_len xs) 0) ≡ true
unfolding line_len
len_break [] h = absurd (omega (arith, h))
len_break (x ∷ xs) h = break_go x xs (len_break xs) (is_break x) refl h
