-- Auxiliary: the sizes of bodies, by which a walk passes over what lies deeper.
use Rattle.std.specs.Prelude.{◌≡◌, ℕ, suc, ◌<◌, ◌≤◌, nat_lt, cond, drop, get_or, length, List, [], ◌∷◌}
use Rattle.pq_syntax.specs.declared.tree.Node.{Node}

-- `deeper d nodes` is how many of `nodes` come before the first that is not deeper than `d`
unfoldable pub deeper : ℕ → List Node → ℕ
deeper d [] = 0
deeper d (s ∷ ss) = cond (nat_lt d s.depth) (suc (deeper d ss)) 0

-- `size_of nodes` is how many statements lie in the first of `nodes`, at any depth
abbrev pub size_of : List Node → ℕ
size_of [] = 0
size_of (s ∷ ss) = deeper s.depth ss

-- `IsSized k nodes sizes` is that `sizes` are the sizes of the statements `nodes`, those from the
-- index `k` on
pub record IsSized (k : ℕ) (nodes : List Node) (sizes : List ℕ) : Type 0 where
  pub len : length sizes ≡ length nodes
  pub each : (j : ℕ) → k ≤ j → j < length nodes → get_or sizes j 0 ≡ size_of (drop j nodes)
