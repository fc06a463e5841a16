-- Auxiliary: the LL(1) property of rules (used by proofs only). A single word of look-ahead decides
-- each choice: between two alternatives, and between a further repetition and what follows.
use Rattle.std.specs.Prelude.{◌≡◌, Bool, true, false, ◌&&◌, ◌||◌, List, [], ◌∷◌}
use Rattle.pq_syntax.specs.Rule.{Rule}
use Rattle.pq_syntax.specs.Rule.Rule.{Single, Empty, Seq, Alt, Star}
use Rattle.pq_syntax.specs.aux.Machine.{nullable, in_first}

-- `begins accepts rules w` is whether some sentence of `rules` begins with `w`.
abbrev pub begins : {A W : Type 0} → (A → W → Bool) → List (Rule A) → W → Bool
begins accepts [] w = false
begins accepts (r ∷ k) w = in_first accepts r w || (nullable r && begins accepts k w)

-- `Apart f g` is: no word passes both tests.
abbrev pub Apart : {W : Type 0} → (W → Bool) → (W → Bool) → Type 0
Apart {W = W} f g = (w : W) → f w ≡ true → g w ≡ true → ⊥

-- `IsLL1 accepts r f` is: one word decides each choice within `r`, if what follows `r` begins with
-- the words that pass `f`.
abbrev pub IsLL1 : {A W : Type 0} → (A → W → Bool) → Rule A → (W → Bool) → Type 0
IsLL1 accepts (Single c) f = Unit {0}
IsLL1 accepts Empty f = Unit {0}
IsLL1 accepts (Seq a b) f = IsLL1 accepts a (λ w. in_first accepts b w || (nullable b && f w)) × IsLL1 accepts b f
IsLL1 accepts (Alt a b) f =
    IsLL1 accepts a f × IsLL1 accepts b f × Apart (in_first accepts a) (in_first accepts b) × (nullable a && nullable b ≡ false) ×
    (nullable a || nullable b ≡ true → Apart (λ w. in_first accepts a w || in_first accepts b w) f)
IsLL1 accepts (Star r) f = IsLL1 accepts r (λ w. in_first accepts r w || f w) × (nullable r ≡ false) × Apart (in_first accepts r) f

-- `AreLL1 accepts rules` is: one word decides each choice within `rules`, one after the other.
abbrev pub AreLL1 : {A W : Type 0} → (A → W → Bool) → List (Rule A) → Type 0
AreLL1 accepts [] = Unit {0}
AreLL1 accepts (r ∷ k) = IsLL1 accepts r (begins accepts k) × AreLL1 accepts k
