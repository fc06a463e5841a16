-- Auxiliary: each further question of the queries lowers what is left (used by proofs and
-- invariants only). A law of a trait's impl may cite specs/ alone.
use Rattle.std.proofs.Common.{◌≡◌, ℕ, List, [], ◌∷◌, ◌++◌, length, Option, Some, None, refl, sym, subst, inl, inr, arith}
use Rattle.pq_rules.specs.declared.turn.Turn.TheVariants.{Ask, Done}
use Rattle.pq_rules.specs.Turns.{IsLower}
use Rattle.pq_links.specs.aux.Queries.{join_next, linked_advances, linked_left}
use Rattle.pq_links.specs.declared.linked.Linking.{Linking}
use Rattle.pq_links.specs.declared.linked.Linking.TheVariants.{Reading, Joining}
use Rattle.pq_links.specs.declared.links.Import.{Import}
use Rattle.pq_links.specs.declared.links.Links.{Links}

-- a query that ends after one answer asks nothing more
pub once_falls : {K W : Type 0} {w : W} (q : K) (r : Unit {0}) → Done w ≡ Ask q r → IsLower (0, 0) (0, 0)
once_falls q r e = cc

next_falls : {K : Type 0} (linked : List ℕ → K) (f : List ℕ) (is : List Import) (pairs : List (Import × Links)) (n : ℕ × ℕ) (q : K) (r : Linking)
    → IsLower (0, length is) n → join_next linked f is pairs ≡ Ask q r → IsLower (linked_left r) n
next_falls linked f [] pairs n q r low e = cc
next_falls linked f (i ∷ is) pairs n q r low e =
    let part : r ≡ Joining f (i ∷ is, pairs) = cc in subst (λ (x : Linking). IsLower (linked_left x) n) (sym part) low

pub linked_falls : {K : Type 0} (linked : List ℕ → K) (imports : Option (List Import)) (links : Links) (p : Linking) (q : K) (r : Linking)
    → linked_advances linked imports links p ≡ Ask q r → IsLower (linked_left r) (linked_left p)
linked_falls linked None links (Reading f) q r e = cc
linked_falls linked (Some is) links (Reading f) q r e = next_falls linked f is [] (1, 0) q r (inl (omega arith)) e
linked_falls linked imports links (Joining f ([], pairs)) q r e = cc
linked_falls linked imports links (Joining f (i ∷ is, pairs)) q r e = next_falls linked f is (pairs ++ (i, links) ∷ []) (0, length (i ∷ is)) q r (inr (refl, omega arith)) e
