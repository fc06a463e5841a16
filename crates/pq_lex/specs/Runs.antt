-- Runs of bytes of one set, and the first offset at which a test holds.
use Rattle.std.specs.Prelude.{◌≡◌, ℕ, zero, suc, ◌-◌, ◌<◌, ◌≤◌, Bool, true, not, cond, List, length}
use Rattle.pq_lex.specs.declared.bytes.Set.{Set}
use Rattle.pq_lex.specs.Classes.{byte, in_set}

-- `first f most i` is the first of the `most` numbers from `i` on at which `f` holds, or the number
-- after them.
unfoldable pub first : (ℕ → Bool) → ℕ → ℕ → ℕ
first f zero i = i
first f (suc most) i = cond (f i) i (first f most (suc i))

-- `run_end set text i` is the first offset from `i` on whose byte is not in `set`, or the end of
-- `text`.
unfoldable pub run_end : Set → List ℕ → ℕ → ℕ
run_end set text i = first (λ k. not (in_set set (byte text k))) (length text - i) i

-- `Run set text i n` is: `text` has the bytes from offset `i` to `n`, and each is in `set`.
pub record Run (set : Set) (text : List ℕ) (i n : ℕ) : Type 0 where
  pub ordered : i ≤ n
  pub within : n ≤ length text
  pub all : (k : ℕ) → i ≤ k → k < n → in_set set (byte text k) ≡ true
