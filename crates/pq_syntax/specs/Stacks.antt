-- The open statements of a walk over a tree: the depth of each, and what the walk keeps of it, the
-- innermost first.
use Rattle.std.specs.Prelude.{ℕ, nat_lt, cond, List, [], ◌∷◌, Option, Some, None}

-- `closed depth stack` is `stack` without the innermost entries that are as deep as `depth` or
-- deeper
unfoldable pub closed : {T : Type 0} → ℕ → List (ℕ × T) → List (ℕ × T)
closed depth [] = []
closed depth (e ∷ es) = cond (nat_lt e.0 depth) (e ∷ es) (closed depth es)

-- `innermost stack` is what is kept of the innermost statement of `stack`, or `None` if it is empty
abbrev pub innermost : {T : Type 0} → List (ℕ × T) → Option T
innermost [] = None
innermost (e ∷ es) = Some e.1
