-- A file that leads into a ring of imports is bad: walks of every length start at it.
use Rattle.std.proofs.Common.{ℕ, zero, suc, List, [], ◌∷◌, ◌++◌, refl, sym, subst, inl, inr}
use Rattle.pq_rules.specs.Relations.{In, Chain, Leads, IsRing, LeadsInto}
use Rattle.pq_links.specs.ImportGraph.{Graph, imported, Walks, IsBad, IsNext, IsRingOf}

in_middle : (before after : List (List ℕ)) (h : List ℕ) → In h (before ++ h ∷ after)
in_middle [] after h = inl refl
in_middle (x ∷ xs) after h = inr (in_middle xs after h)

walks_before : (g : Graph) (f h : List ℕ) → IsBad g h → In h (imported g f) → IsBad g f
unfolding Walks
walks_before g f h bad i zero = tt
walks_before g f h bad i (suc n) = (h, i, bad n)

-- a file with a next file is bad
next_bad : (g : Graph) (f h : List ℕ) → IsNext g f h → IsBad g f
next_bad g f h n = walks_before g f h n.4 (subst (λ (hs : List (List ℕ)). In h hs) (sym n.2) (in_middle n.0 n.1 h))

chain_bad : (g : Graph) (f : List ℕ) (xs : List (List ℕ)) (z : List ℕ) → Chain (IsNext g) f xs z → IsBad g f
unfolding Chain
chain_bad g f [] z c = next_bad g f z c
chain_bad g f (x ∷ xs) z c = next_bad g f x c.0

pub ring_bad : (g : Graph) (f : List ℕ) (ring : List (List ℕ)) → IsRingOf g f ring → IsBad g f
unfolding IsRing LeadsInto Leads
ring_bad g f [] r = absurd r.0
ring_bad g f (z ∷ zs) r = elim r.1 [
  | inl e ↦ subst (λ (x : List ℕ). IsBad g x) (sym e) (chain_bad g z zs z r.0.0)
  | inr c ↦ chain_bad g f c.0 z c.1
]
