-- Laws of the import graph: a file is not both good and bad, its first bad import is one, and each
-- sufficient bound on the walks of a file gives the same links.
use Rattle.std.proofs.Common.{◌≡◌, ℕ, zero, suc, ◌≤◌, List, [], ◌∷◌, ◌++◌, map, Option, Some, None, unwrap_or, refl, sym, ap, subst, ◌∙◌, inl, inr, arith}
use Rattle.pq_rules.specs.Relations.{Each, In}
use Rattle.pq_links.specs.ImportGraph.{Graph, file_of, imported, Walks, EndsWithin, IsBad, IsGood, IsNext}
use Rattle.pq_links.specs.Visibility.{links_by, links_or_none, links_within}
use Rattle.pq_links.specs.declared.links.Import.{Import}
use Rattle.pq_links.specs.declared.links.Links.{Links}

-- `with_links g n is` is the imports `is`, each with the links of its file by the bound `n`
abbrev pub with_links : Graph → ℕ → List Import → List (Import × Links)
with_links g n is = map (λ i. (i, links_within g n i.file)) is

-- `Up g n k f` is that `k` bounds the walks of the file `f`, and gives the same links as `n`
abbrev pub Up : Graph → ℕ → ℕ → List ℕ → Type 0
Up g n k f = EndsWithin g k f × (links_within g k f ≡ links_within g n f)

each_up : (g : Graph) (n k : ℕ) → ((f : List ℕ) → EndsWithin g n f → Up g n k f)
    → (is : List Import) → Each (EndsWithin g n) (map file_of is)
    → Each (EndsWithin g k) (map file_of is) × (with_links g k is ≡ with_links g n is)
each_up g n k up [] e = (tt, refl)
each_up g n k up (i ∷ is) e =
    let h = up i.file e.0 in let t = each_up g n k up is e.1 in
    ((h.0, t.0), ap (λ (l : Links). (i, l) ∷ with_links g k is) h.1 ∙ ap (λ (ls : List (Import × Links)). (i, links_within g n i.file) ∷ ls) t.1)

file_up : (g : Graph) (n k : ℕ) → ((f : List ℕ) → EndsWithin g n f → Up g n k f)
    → (f : List ℕ) (o : Option (List Import)) → Each (EndsWithin g n) (map file_of (unwrap_or o []))
    → Each (EndsWithin g k) (map file_of (unwrap_or o []))
    × (links_or_none f (λ i. links_within g k i.file) o ≡ links_or_none f (λ i. links_within g n i.file) o)
file_up g n k up f None e = (tt, refl)
file_up g n k up f (Some is) e = let t = each_up g n k up is e in (t.0, ap (links_by f) t.1)

pub bound_up : (g : Graph) (n k : ℕ) → n ≤ k → (f : List ℕ) → EndsWithin g n f → Up g n k f
unfolding EndsWithin links_within
bound_up g zero k h f e = absurd e
bound_up g (suc n) zero h f e = absurd (omega arith)
bound_up g (suc n) (suc k) h f e = file_up g n k (bound_up g n k (omega arith)) f (g f) e

pub bounds_up : (g : Graph) (n k : ℕ) → n ≤ k → (is : List Import) → Each (EndsWithin g n) (map file_of is)
    → Each (EndsWithin g k) (map file_of is) × (with_links g k is ≡ with_links g n is)
bounds_up g n k h = each_up g n k (bound_up g n k h)

-- a file is not both good and bad
pub ends_or_walks : (g : Graph) (n : ℕ) (f : List ℕ) → EndsWithin g n f → Walks g n f → ⊥
unfolding EndsWithin Walks
ends_or_walks g zero f e w = e
ends_or_walks g (suc n) f e w = ends_or_walks g n w.0 (at (imported g f) e w.1) w.2
  where
    at : (fs : List (List ℕ)) → Each (EndsWithin g n) fs → In w.0 fs → EndsWithin g n w.0
    at [] e i = absurd i
    at (x ∷ xs) e (inl p) = subst (EndsWithin g n) (sym p) e.0
    at (x ∷ xs) e (inr i) = at xs e.1 i

-- ---- the first bad import is one

pub good_bad : (g : Graph) (f : List ℕ) → IsGood g f → IsBad g f → ⊥
good_bad g f good bad = ends_or_walks g good.0 f good.1 (bad good.0)

first_bad : (g : Graph) (before after before' after' : List (List ℕ)) (h h' : List ℕ) → before ++ h ∷ after ≡ before' ++ h' ∷ after'
    → Each (IsGood g) before → IsBad g h → Each (IsGood g) before' → IsBad g h' → h ≡ h'
first_bad g [] after [] after' h h' e good bad good' bad' = cc
first_bad g [] after (y ∷ ys) after' h h' e good bad good' bad' =
    let is : h ≡ y = cc in absurd (good_bad g y good'.0 (subst (IsBad g) is bad))
first_bad g (x ∷ xs) after [] after' h h' e good bad good' bad' =
    let is : h' ≡ x = cc in absurd (good_bad g x good.0 (subst (IsBad g) is bad'))
first_bad g (x ∷ xs) after (y ∷ ys) after' h h' e good bad good' bad' =
    let on : xs ++ h ∷ after ≡ ys ++ h' ∷ after' = cc in first_bad g xs after ys after' h h' on good.1 bad good'.1 bad'

pub next_one : (g : Graph) (f h h' : List ℕ) → IsNext g f h → IsNext g f h' → h ≡ h'
next_one g f h h' i j = first_bad g i.0 i.1 j.0 j.1 h h' (sym i.2 ∙ j.2) i.3 i.4 j.3 j.4
