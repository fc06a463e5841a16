-- Lists with each item at its first place alone.
use Rattle.std.specs.Prelude.{Bool, not, filter, List, [], ◌∷◌}

-- `each_once same xs` is the items of `xs` in order, without each item that is the same, by the
-- test `same`, as one before it
unfoldable pub each_once : {A : Type 0} → (A → A → Bool) → List A → List A
each_once same [] = []
each_once same (x ∷ xs) = x ∷ filter (λ y. not (same x y)) (each_once same xs)
