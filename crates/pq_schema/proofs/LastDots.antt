-- The last dot of a name, and the bytes of a name in parts.
use Rattle.std.proofs.Common.{◌≡◌, ℕ, suc, zero, ◌+◌, ◌<◌, ◌≤◌, List, [], ◌∷◌, ◌++◌, length, get_or, take, sym, ap, ◌∙◌, arith, append-nil}
use Rattle.std.specs.List.{concat}
use Rattle.std.proofs.lemmas.List.{take_more, length-append}
use Rattle.std.proofs.lemmas.List.Folds.{concat-append}
use Rattle.pq_schema.specs.Resolution.{prefixes}
use Rattle.pq_schema.specs.aux.Spots.{IsPlain}
use Rattle.pq_schema.proofs.Prefixes.{no_dot, before_last}

-- what is before the last dot
pub last_dot : (a b m n : List ℕ) → IsPlain m → IsPlain n → a ++ 46 ∷ m ≡ b ++ 46 ∷ n → a ≡ b
last_dot a b m n plain_m plain_n is =
    let same : a ∷ prefixes a ≡ b ∷ prefixes b = sym (before_last a m plain_m) ∙ ap prefixes is ∙ before_last b n plain_n in cc

pub not_plain : (a m : List ℕ) → IsPlain m → IsPlain (a ++ 46 ∷ m) → ⊥
not_plain a m plain_m plain =
    let same : a ∷ prefixes a ≡ [] = sym (before_last a m plain_m) ∙ no_dot (a ++ 46 ∷ m) plain in cc

-- ---- the bytes of parts

pub parts_more : (parts : List (List ℕ)) (i : ℕ) (d : List ℕ) → i < length parts
    → length (concat (take (i + 1) parts)) ≡ length (concat (take i parts)) + length (get_or parts i d)
parts_more parts i d within =
    ap (λ (ps : List (List ℕ)). length (concat ps)) (take_more parts i d within)
    ∙ ap length (concat-append (take i parts) (get_or parts i d ∷ []))
    ∙ length-append (concat (take i parts)) (get_or parts i d ++ [])
    ∙ ap (λ (x : List ℕ). length (concat (take i parts)) + length x) (append-nil (get_or parts i d))

pub part_within : (parts : List (List ℕ)) (i : ℕ) (d : List ℕ) → i < length parts
    → length (concat (take i parts)) + length (get_or parts i d) ≤ length (concat parts)
part_within [] i d within = absurd (omega arith)
part_within (x ∷ xs) zero d within = omega (arith, length-append x (concat xs))
part_within (x ∷ xs) (suc i) d within =
    omega (arith, part_within xs i d (omega arith), length-append x (concat (take i xs)), length-append x (concat xs))
