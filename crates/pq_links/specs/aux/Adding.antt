-- Auxiliary: items added one after another, each if it is not there yet (used by proofs and
-- invariants only). The result is `each_once` of `specs/Once`.
use Rattle.std.specs.Prelude.{◌≡◌, ℕ, Bool, false, bytes_eq, cond, not, ◌||◌, List, [], ◌∷◌, ◌++◌}
use Rattle.std.specs.Cmp.Lexicographic.{slice_cmp}
use Rattle.std.specs.Ordering.{eq_by_cmp, nat_cmp}
use Rattle.std.specs.declared.cmp.Ordering.{Ordering}
use Rattle.std.specs.BTreeSet.{BTreeSet, contains}

-- `has same xs x` is whether `x` is the same, by the test `same`, as an item of `xs`
abbrev pub has : {A : Type 0} → (A → A → Bool) → List A → A → Bool
has same [] x = false
has same (y ∷ ys) x = same y x || has same ys x

-- `add_first same xs x` is `xs` with `x` as its last item, or `xs` if it has `x`
abbrev pub add_first : {A : Type 0} → (A → A → Bool) → List A → A → List A
add_first same xs x = cond (has same xs x) xs (xs ++ x ∷ [])

-- `add_firsts same xs ys` is `xs` after each of `ys` was added in order
abbrev pub add_firsts : {A : Type 0} → (A → A → Bool) → List A → List A → List A
add_firsts same xs [] = xs
add_firsts same xs (y ∷ ys) = add_firsts same (add_first same xs y) ys

-- `Sees order seen xs` is that the set `seen`, ordered by `order`, has exactly the items of `xs`
abbrev pub Sees : {A : Type 0} → (A → A → Ordering) → BTreeSet A → List A → Type 0
Sees {A} order seen xs = (x : A) → contains order seen x ≡ has (eq_by_cmp order) xs x

-- `same_name a b` is whether the names `a` and `b` compare as equal
abbrev pub same_name : List ℕ → List ℕ → Bool
same_name = eq_by_cmp (slice_cmp nat_cmp)

-- `is_not file name` is whether the name `name` is another than `file`
abbrev pub is_not : List ℕ → List ℕ → Bool
is_not file name = not (bytes_eq file name)
