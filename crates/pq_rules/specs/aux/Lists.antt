-- Auxiliary: the elements of two lists put together (used by proofs and invariants only). The laws
-- of the example cite them, and a law of a trait's impl may cite specs/ alone.
use Rattle.std.proofs.Common.{◌⊎◌, List, [], ◌∷◌, ◌++◌, inl, inr}
use Rattle.pq_rules.specs.Relations.{In}

pub in_append_left : {A : Type 0} (x : A) (xs ys : List A) → In x xs → In x (xs ++ ys)
in_append_left x [] ys i = absurd i
in_append_left x (y ∷ xs) ys (inl p) = inl p
in_append_left x (y ∷ xs) ys (inr i) = inr (in_append_left x xs ys i)

pub in_append_right : {A : Type 0} (x : A) (xs ys : List A) → In x ys → In x (xs ++ ys)
in_append_right x [] ys i = i
in_append_right x (y ∷ xs) ys i = inr (in_append_right x xs ys i)

pub in_append : {A : Type 0} (x : A) (xs ys : List A) → In x (xs ++ ys) → In x xs ⊎ In x ys
in_append x [] ys i = inr i
in_append x (y ∷ xs) ys (inl p) = inl (inl p)
in_append x (y ∷ xs) ys (inr i) = elim (in_append x xs ys i) [ inl j ↦ inl (inr j) | inr j ↦ inr j ]
