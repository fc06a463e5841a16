-- Auxiliary: what the parser's contracts say of a rule, whatever follows it (used by contracts and
-- proofs of the parser only).
use Rattle.std.specs.Prelude.{◌≡◌, ℕ, Bool, false, List, [], ◌∷◌, ◌++◌, Err}
use Rattle.pq_syntax.specs.Rule.{Rule, Parse}
use Rattle.pq_syntax.specs.aux.Machine.{in_first, on_ok, run}
use Rattle.pq_syntax.specs.Yield.{yield_of}

-- `Takes accepts r words left p`: the rule `r` takes the words before `left`, and reads them as `p`
pub record Takes {A W : Type 0} (accepts : A → W → Bool) (r : Rule A) (words left : List W) (p : Parse W) : Type 0 where
  pub goes : (k : List (Rule A)) → run accepts (r ∷ k) words ≡ on_ok (λ ps. p ∷ ps) (run accepts k left)
  pub read : words ≡ yield_of p ++ left

-- `Stops accepts r words n`: the error is within the rule `r`, where `n` words are left
pub record Stops {A W : Type 0} (accepts : A → W → Bool) (r : Rule A) (words : List W) (n : ℕ) : Type 0 where
  pub goes : (k : List (Rule A)) → run accepts (r ∷ k) words ≡ Err n

-- `starts_at accepts r words` is whether the first word begins the rule `r`
abbrev pub starts_at : {A W : Type 0} → (A → W → Bool) → Rule A → List W → Bool
starts_at accepts r [] = false
starts_at accepts r (w ∷ ws) = in_first accepts r w
