-- Lists: what an iterator of a list by value has left, and texts in order.
use Rattle.std.proofs.Common.{◌≡◌, ℕ, ◌+◌, ◌<◌, List, [], ◌∷◌, length, map, refl, ◌∙◌, ap, arith, slice_index_or}
use Rattle.std.specs.Prelude.{string_bytes}
use Rattle.std.specs.declared.string.String.{String}
use Rattle.std.specs.List.Sorted.{IsSorted}
use Rattle.std.specs.Ordering.{nat_cmp, is_lt}
use Rattle.std.specs.Cmp.Lexicographic.{slice_cmp}
use Rattle.std.specs.String.{string_cmp}
use Rattle.std.proofs.lemmas.List.{length-map, get_or-map}

pub nothing_left : {X : Type 0} (xs : List X) → length xs ≡ 0 → xs ≡ []
nothing_left [] h = refl
nothing_left (x ∷ xs) h = absurd (omega arith)

-- texts in order are in order as bytes
pub texts_in_order : {Z : Type 0} (names : List (String Z)) → IsSorted string_cmp names → IsSorted (slice_cmp nat_cmp) (map string_bytes names)
texts_in_order [] sorted k d low high = absurd (omega (arith, high))
texts_in_order (v ∷ rest) sorted k d low high =
    let names = v ∷ rest in
    let within : k + 1 < length names = omega (arith, high, length-map names string_bytes) in
    let here = get_or-map string_bytes names k v d (omega (arith, within)) in
    let next = get_or-map string_bytes names (k + 1) v d within in
    ap (λ (s : List ℕ). is_lt (slice_cmp nat_cmp s (slice_index_or (map string_bytes names) k d))) next
    ∙ ap (λ (s : List ℕ). is_lt (slice_cmp nat_cmp (string_bytes (slice_index_or names (k + 1) v)) s)) here
    ∙ sorted k v low within
