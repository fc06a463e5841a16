-- What is said of each element of a list by those before it.
use Rattle.std.specs.Prelude.{◌≡◌, ℕ, ◌<◌, List, [], ◌∷◌, ◌++◌, take, length, get_or, Contains}

-- `of_each_after f earlier xs` joins `f before x` for each element `x` of `xs`, where `before`
-- lists `earlier` and the elements of `xs` before `x`
unfoldable pub of_each_after : {A B : Type 0} → (List A → A → List B) → List A → List A → List B
of_each_after f earlier [] = []
of_each_after f earlier (x ∷ xs) = f earlier x ++ of_each_after f (earlier ++ x ∷ []) xs

-- `IsSaidOfOne f xs x` is that `x` is among what `f` says of an element of `xs` by those before it
-- (the law `said_of_one`)
abbrev pub IsSaidOfOne : {A B : Type 0} → (List A → A → List B) → List A → B → Type 0
IsSaidOfOne {A = A} f xs x = (i : ℕ) × (y : A) × (i < length xs) × (get_or xs i y ≡ y) × Contains (f (take i xs) y) x
