-- Auxiliary: each further question of the example's queries lowers what is left (used by proofs and
-- invariants only).
use Rattle.std.proofs.Common.{◌≡◌, ℕ, ◌+◌, List, [], ◌∷◌, min, length, unwrap_or, Option, refl, sym, subst, inl, inr, arith}
use Rattle.pq_rules.specs.declared.turn.Turn.TheVariants.{Ask}
use Rattle.pq_rules.specs.declared.sums.queries.SumPart.{SumPart}
use Rattle.pq_rules.specs.declared.sums.queries.SumPart.TheVariants.{Read, Add}
use Rattle.pq_rules.specs.Turns.{IsLower}
use Rattle.pq_rules.specs.sums.Names.{names_of}
use Rattle.pq_rules.specs.sums.Queries.{add_next, sum_advances, sum_left, total_advances, largest_sum}

-- what the next question is
pub next_is : {K : Type 0} (sum : List ℕ → K) (gs : List (List ℕ)) (n : ℕ) (q : K) (p : SumPart) → add_next sum gs n ≡ Ask q p
    → (g : List ℕ) × (hs : List (List ℕ)) × (gs ≡ g ∷ hs) × (q ≡ sum g) × (p ≡ Add hs n)
next_is sum [] n q p e = cc
next_is {K} sum (g ∷ gs) n q p e =
    let key : q ≡ sum g = cc in let part : p ≡ Add gs n = cc in (g, gs, refl, key, part)

pub sum_falls : {K : Type 0} (sum : List ℕ → K) (text : Option (List ℕ)) (number : Option ℕ) (p : SumPart) (q : K) (r : SumPart)
    → sum_advances sum text number p ≡ Ask q r → IsLower (sum_left r) (sum_left p)
sum_falls sum text number Read q r e =
    let n = next_is sum (names_of text) 1 q r e in
    subst (λ (x : SumPart). IsLower (sum_left x) (1, 0)) (sym n.4) (inl (omega arith))
sum_falls sum text number (Add [] m) q r e = cc
sum_falls sum text number (Add (g ∷ gs) m) q r e =
    let part : r ≡ Add gs (min (m + unwrap_or number 0) largest_sum) = cc in
    subst (λ (x : SumPart). IsLower (sum_left x) (0, length (g ∷ gs))) (sym part) (inr (refl, omega arith))

pub total_falls : {K : Type 0} (number : Option ℕ) (q : K) (r : Unit {0}) → total_advances number ≡ Ask q r → IsLower (0, 0) (0, 0)
total_falls number q r e = cc
