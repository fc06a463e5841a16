-- Auxiliary: the keys of several names, by the functions that make them, and which keys these are
-- (used by proofs and invariants only). The laws of rule sets cite them, and a law of a trait's impl
-- may cite specs/ alone.
use Rattle.std.proofs.Common.{◌≡◌, ◌⊎◌, ℕ, zero, suc, List, [], ◌∷◌, ◌++◌, map, Some, None, sym, ap, subst, ◌∙◌, inl, inr}
use Rattle.std.specs.Prelude.{slice_get}
use Rattle.pq_rules.specs.Relations.{Each, In}
use Rattle.pq_rules.specs.aux.Lists.{in_append_left, in_append_right, in_append}

-- `keys_by makers ns` is, for each of the names `ns`, the key that each of `makers` makes of it
abbrev pub keys_by : {A K : Type 0} → List (A → K) → List A → List K
keys_by makers [] = []
keys_by {A} {K} makers (n ∷ ns) = map (λ (key : A → K). key n) makers ++ keys_by makers ns

made_in : {A K : Type 0} (makers : List (A → K)) (key : A → K) (n : A) → In key makers → In (key n) (map (λ (make : A → K). make n) makers)
made_in [] key n i = i
made_in {A} {K} (x ∷ xs) key n (inl e) = inl (ap (λ (make : A → K). make n) e)
made_in (x ∷ xs) key n (inr i) = inr (made_in xs key n i)

-- the key that one of the makers makes of one of the names is among the keys
pub in_keys_by : {A K : Type 0} (makers : List (A → K)) (key : A → K) (n : A) (ns : List A) → In key makers → In n ns → In (key n) (keys_by makers ns)
in_keys_by makers key n [] k i = i
in_keys_by {A} {K} makers key n (m ∷ ns) k (inl e) =
    in_append_left (key n) (map (λ (make : A → K). make m) makers) (keys_by makers ns)
    (subst (λ (x : A). In (key n) (map (λ (make : A → K). make x) makers)) e (made_in makers key n k))
in_keys_by {A} {K} makers key n (m ∷ ns) k (inr i) =
    in_append_right (key n) (map (λ (make : A → K). make m) makers) (keys_by makers ns) (in_keys_by makers key n ns k i)

name_of_made : {A K : Type 0} (name : K → A) (makers : List (A → K)) → Each (λ (key : A → K). (n : A) → name (key n) ≡ n) makers
    → (k : K) (n : A) → In k (map (λ (make : A → K). make n) makers) → name k ≡ n
name_of_made name [] are k n i = absurd i
name_of_made name (x ∷ xs) are k n (inl e) = ap name e ∙ are.0 n
name_of_made name (x ∷ xs) are k n (inr i) = name_of_made name xs are.1 k n i

-- each of the keys is of one of the names
pub keys_by_in : {A K : Type 0} (name : K → A) (makers : List (A → K)) → Each (λ (key : A → K). (n : A) → name (key n) ≡ n) makers
    → (k : K) (ns : List A) → In k (keys_by makers ns) → In (name k) ns
keys_by_in name makers are k [] i = i
keys_by_in {A} {K} name makers are k (n ∷ ns) i =
    elim (in_append k (map (λ (make : A → K). make n) makers) (keys_by makers ns) i) [
      | inl j ↦ inl (name_of_made name makers are k n j)
      | inr j ↦ inr (keys_by_in name makers are k ns j)
    ]
