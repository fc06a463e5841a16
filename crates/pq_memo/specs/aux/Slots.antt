-- Auxiliary: the slots of a table, and the numbers of their keys.
use Rattle.std.specs.Prelude.{ℕ, zero, suc, ◌≡◌, List, [], ◌∷◌, Option, Some, None}
use Rattle.pq_memo.specs.Table.{key_at}

-- `value_at slots n` is what the slot `n` has beside its key, if there is such a slot
abbrev pub value_at : {K X : Type 0} → List (K × X) → ℕ → Option X
value_at [] n = None
value_at (e ∷ es) zero = Some e.1
value_at (e ∷ es) (suc n) = value_at es n

-- `with_at slots n x` is `slots`, where the slot `n` has `x` beside its key
abbrev pub with_at : {K X : Type 0} → List (K × X) → ℕ → X → List (K × X)
with_at [] n x = []
with_at (e ∷ es) zero x = (e.0, x) ∷ es
with_at (e ∷ es) (suc n) x = e ∷ with_at es n x

-- `IsNumbered number slots` is that `number` gives the number `n` of a key exactly if the slot `n` has
-- that key
pub record IsNumbered {K X : Type 0} (number : K → Option ℕ) (slots : List (K × X)) : Type 0 where
  pub found : (k : K) (n : ℕ) → number k ≡ Some n → key_at slots n ≡ Some k
  pub known : (k : K) (n : ℕ) → key_at slots n ≡ Some k → number k ≡ Some n
