-- The files that a good file exports, sees and reaches are the present files that walks lead to, and
-- each of the three lists has each of them once.
use Rattle.std.proofs.Common.{◌≡◌, ◌⊎◌, ◌↔◌, ℕ, zero, suc, Bool, true, false, cond, not, List, [], ◌∷◌, ◌++◌, map, Option, Some, None, unwrap_or, refl, sym, ap, subst, inl, inr}
use Rattle.std.specs.Prelude.{IsSome, bytes_eq, filter}
use Rattle.std.specs.List.{AllByRecursion, IsDistinct}
use Rattle.pq_names.proofs.Cases.{either}
use Rattle.pq_rules.specs.Relations.{In, Chain, Leads}
use Rattle.pq_rules.specs.aux.Lists.{in_append, in_append_left, in_append_right}
use Rattle.pq_rules.proofs.ListLemmas.{each_from}
use Rattle.pq_rules.proofs.Rings.{each_in}
use Rattle.pq_links.specs.ImportGraph.{Graph, file_of, imported, EndsWithin}
use Rattle.pq_links.specs.Leading.{Imports, ImportsPublicly, IsInView, LeadsPublicly, LeadsTo}
use Rattle.pq_links.specs.Once.{each_once}
use Rattle.pq_links.specs.Visibility.{AreLinks, firsts, passed_on, shown, reached, links_or_none, links_within}
use Rattle.pq_links.specs.declared.links.Import.{Import}
use Rattle.pq_links.specs.declared.links.Links.{Links}
use Rattle.pq_links.proofs.NameKinds.{firsts_in}
use Rattle.pq_links.proofs.Reached.{has_firsts}

-- ---- lists with each item once

all_filter : {A : Type 0} (P : A → Type 0) (p : A → Bool) (xs : List A) → AllByRecursion P xs → AllByRecursion P (filter p xs)
all_filter P p [] a = tt
all_filter P p (x ∷ xs) a = either (p x) (λ b. AllByRecursion P (cond b (x ∷ filter p xs) (filter p xs))) (λ _. (a.0, all_filter P p xs a.1)) (λ _. all_filter P p xs a.1)

module _ {A : Type 0} (same : A → A → Bool) where
  distinct_filter : (p : A → Bool) (xs : List A) → IsDistinct same xs → IsDistinct same (filter p xs)
  unfolding IsDistinct
  distinct_filter p [] d = tt
  distinct_filter p (x ∷ xs) d =
      either (p x) (λ b. IsDistinct same (cond b (x ∷ filter p xs) (filter p xs)))
      (λ _. (all_filter (λ y. same x y ≡ false) p xs d.0, distinct_filter p xs d.1))
      (λ _. distinct_filter p xs d.1)

  apart : (x : A) (xs : List A) → AllByRecursion (λ y. same x y ≡ false) (filter (λ y. not (same x y)) xs)
  apart x [] = tt
  apart x (y ∷ ys) =
      let others = filter (λ z. not (same x z)) ys in
      either (same x y) (λ b. AllByRecursion (λ z. same x z ≡ false) (cond (not b) (y ∷ others) others)) (λ _. apart x ys) (λ e. (e, apart x ys))

  once_distinct : (xs : List A) → IsDistinct same (each_once same xs)
  unfolding IsDistinct each_once
  once_distinct [] = tt
  once_distinct (x ∷ xs) = (apart x (each_once same xs), distinct_filter (λ y. not (same x y)) (each_once same xs) (once_distinct xs))

from_firsts : (x : List ℕ) (xs : List (List ℕ)) → In x (firsts xs) → In x xs
from_firsts x xs i = each_in (λ w. In w xs) x (firsts xs) (firsts_in (λ w. In w xs) xs (each_from (λ w. In w xs) xs (λ w j. j))) i

-- ---- the lists of a file, by its imports

-- `gather pick is` is what `pick` gives of each of the imports `is`, in order
abbrev gather : (Import → List (List ℕ)) → List Import → List (List ℕ)
gather pick [] = []
gather pick (i ∷ is) = pick i ++ gather pick is

in_gather : (pick : Import → List (List ℕ)) (is : List Import) (i : Import) (h : List ℕ) → In i is → In h (pick i) → In h (gather pick is)
in_gather pick [] i h at in' = absurd at
in_gather pick (x ∷ is) i h (inl e) in' = in_append_left h (pick x) (gather pick is) (subst (λ z. In h (pick z)) e in')
in_gather pick (x ∷ is) i h (inr at) in' = in_append_right h (pick x) (gather pick is) (in_gather pick is i h at in')

-- `Gave pick is h` is that `pick` gives the name `h` of one of the imports `is`
abbrev Gave : (Import → List (List ℕ)) → List Import → List ℕ → Type 0
Gave pick is h = (i : Import) × In i is × In h (pick i)

from_gather : (pick : Import → List (List ℕ)) (is : List Import) (h : List ℕ) → In h (gather pick is) → Gave pick is h
from_gather pick [] h at = absurd at
from_gather pick (x ∷ is) h at = elim (in_append h (pick x) (gather pick is) at) [
  | inl j ↦ (x, inl refl, j)
  | inr j ↦ let r = from_gather pick is h j in (r.0, inr r.1, r.2)
]

-- `listed pick f o` is the file `f` and what `pick` gives of its imports `o`, each name at its first
-- place; an absent file lists nothing
abbrev listed : (Import → List (List ℕ)) → List ℕ → Option (List Import) → List (List ℕ)
listed pick f None = []
listed pick f (Some is) = firsts (f ∷ gather pick is)

listed_once : (pick : Import → List (List ℕ)) (f : List ℕ) (o : Option (List Import)) → IsDistinct bytes_eq (listed pick f o)
unfolding IsDistinct
listed_once pick f None = tt
listed_once pick f (Some is) = once_distinct bytes_eq (f ∷ gather pick is)

listed_here : (pick : Import → List (List ℕ)) (f : List ℕ) (o : Option (List Import)) → IsSome o → In f (listed pick f o)
listed_here pick f None s = cc
listed_here pick f (Some is) s = has_firsts f (f ∷ gather pick is) (inl refl)

listed_there : (pick : Import → List (List ℕ)) (f : List ℕ) (o : Option (List Import)) (i : Import) (h : List ℕ) → In i (unwrap_or o []) → In h (pick i) → In h (listed pick f o)
listed_there pick f None i h at in' = absurd at
listed_there pick f (Some is) i h at in' = has_firsts h (f ∷ gather pick is) (inr (in_gather pick is i h at in'))

listed_out : (pick : Import → List (List ℕ)) (f : List ℕ) (o : Option (List Import)) (h : List ℕ) → In h (listed pick f o) → IsSome o × ((h ≡ f) ⊎ Gave pick (unwrap_or o []) h)
listed_out pick f None h at = absurd at
listed_out pick f (Some is) h at = (refl, elim (from_firsts h (f ∷ gather pick is) at) [ inl e ↦ inl e | inr j ↦ inr (from_gather pick is h j) ])

module _ (of : Import → Links) where
  abbrev exported : Import → List (List ℕ)
  exported i = cond i.is_public (of i).exports []

  passed_is : (is : List Import) → passed_on (map (λ i. (i, of i)) is) ≡ gather exported is
  passed_is [] = refl
  passed_is (i ∷ is) = ap (λ (hs : List (List ℕ)). exported i ++ hs) (passed_is is)

  shown_is : (is : List Import) → shown (map (λ i. (i, of i)) is) ≡ gather (λ i. (of i).exports) is
  shown_is [] = refl
  shown_is (i ∷ is) = ap (λ (hs : List (List ℕ)). (of i).exports ++ hs) (shown_is is)

  reached_is : (is : List Import) → reached (map (λ i. (i, of i)) is) ≡ gather (λ i. (of i).reach) is
  reached_is [] = refl
  reached_is (i ∷ is) = ap (λ (hs : List (List ℕ)). (of i).reach ++ hs) (reached_is is)

  exports_listed : (f : List ℕ) (o : Option (List Import)) → (links_or_none f of o).exports ≡ listed exported f o
  exports_listed f None = refl
  exports_listed f (Some is) = ap (λ (hs : List (List ℕ)). firsts (f ∷ hs)) (passed_is is)

  visible_listed : (f : List ℕ) (o : Option (List Import)) → (links_or_none f of o).visible ≡ listed (λ i. (of i).exports) f o
  visible_listed f None = refl
  visible_listed f (Some is) = ap (λ (hs : List (List ℕ)). firsts (f ∷ hs)) (shown_is is)

  reach_listed : (f : List ℕ) (o : Option (List Import)) → (links_or_none f of o).reach ≡ listed (λ i. (of i).reach) f o
  reach_listed f None = refl
  reach_listed f (Some is) = ap (λ (hs : List (List ℕ)). firsts (f ∷ hs)) (reached_is is)

-- ---- walks

step : (N : List ℕ → List ℕ → Type 0) (f k h : List ℕ) → N f k → Leads N k h → Leads N f h
unfolding Leads Chain
step N f k h s (inl e) = inr ([], subst (N f) e s)
step N f k h s (inr c) = inr (k ∷ c.0, (s, c.1))

first_step : (N : List ℕ → List ℕ → Type 0) (f h : List ℕ) (xs : List (List ℕ)) → Chain N f xs h → (k : List ℕ) × N f k × Leads N k h
unfolding Leads Chain
first_step N f h [] c = (h, c, inl refl)
first_step N f h (x ∷ xs) c = (x, c.0, inr (xs, c.1))

import_in : (i : Import) (is : List Import) → In i is → In i.file (map file_of is)
import_in i [] at = absurd at
import_in i (x ∷ is) (inl e) = inl (ap file_of e)
import_in i (x ∷ is) (inr at) = inr (import_in i is at)

import_of : (k : List ℕ) (is : List Import) → In k (map file_of is) → (i : Import) × In i is × (i.file ≡ k)
import_of k [] at = absurd at
import_of k (x ∷ is) (inl e) = (x, inl refl, sym e)
import_of k (x ∷ is) (inr at) = let r = import_of k is at in (r.0, inr r.1, r.2)

-- ---- a list that grows with the bound, along the steps of a relation

-- `Grows g N names` is that a file lists, with a bound one higher, itself and what the files list to
-- which a step of `N` leads; only a present file lists something
record Grows (g : Graph) (N : List ℕ → List ℕ → Type 0) (names : ℕ → List ℕ → List (List ℕ)) : Type 0 where
  none : (f h : List ℕ) → In h (names 0 f) → ⊥
  splits : (n : ℕ) (f h : List ℕ) → In h (names (suc n) f) → IsSome (g f) × ((h ≡ f) ⊎ ((k : List ℕ) × N f k × In h (names n k)))
  here : (n : ℕ) (f : List ℕ) → IsSome (g f) → In f (names (suc n) f)
  there : (n : ℕ) (f k h : List ℕ) → N f k → In h (names n k) → In h (names (suc n) f)
  imports : (f k : List ℕ) → N f k → In k (imported g f)

module _ (g : Graph) (N : List ℕ → List ℕ → Type 0) (names : ℕ → List ℕ → List (List ℕ)) (grows : Grows g N names) where
  sound : (n : ℕ) (f h : List ℕ) → In h (names n f) → IsSome (g h) × Leads N f h
  unfolding Leads
  sound zero f h at = absurd (grows.none f h at)
  sound (suc n) f h at = let s = grows.splits n f h at in elim s.1 [
    | inl e ↦ (subst (λ (z : List ℕ). IsSome (g z)) (sym e) s.0, inl (sym e))
    | inr r ↦ let t = sound n r.0 h r.2 in (t.0, step N f r.0 h r.1 t.1)
  ]

  complete : (n : ℕ) (f h : List ℕ) → EndsWithin g n f → IsSome (g h) → Leads N f h → In h (names n f)
  unfolding Leads EndsWithin
  complete zero f h ends some leads = absurd ends
  complete (suc n) f h ends some (inl e) = subst (λ (z : List ℕ). In z (names (suc n) f)) e (grows.here n f (subst (λ (z : List ℕ). IsSome (g z)) (sym e) some))
  complete (suc n) f h ends some (inr c) =
      let t = first_step N f h c.0 c.1 in
      grows.there n f t.0 h t.1 (complete n t.0 h (each_in (EndsWithin g n) t.0 (imported g f) ends (grows.imports f t.0 t.1)) some t.2)

module _ (g : Graph) where
  abbrev of : ℕ → Import → Links
  of n i = links_within g n i.file

  -- ---- reach

  reach_grows : Grows g (Imports g) (λ n f. (links_within g n f).reach)
  unfolding links_within
  reach_grows = record {
    none = λ f h at. at;
    splits = λ n f h at.
        let o = listed_out (λ i. (of n i).reach) f (g f) h (subst (λ (hs : List (List ℕ)). In h hs) (reach_listed (of n) f (g f)) at) in
        (o.0, elim o.1 [ inl e ↦ inl e | inr r ↦ inr (r.0.file, import_in r.0 (unwrap_or (g f) []) r.1, r.2) ]);
    here = λ n f some. subst (λ (hs : List (List ℕ)). In f hs) (sym (reach_listed (of n) f (g f))) (listed_here (λ i. (of n i).reach) f (g f) some);
    there = λ n f k h s at.
        let i = import_of k (unwrap_or (g f) []) s in
        let below : In h (of n i.0).reach = subst (λ (z : List ℕ). In h (links_within g n z).reach) (sym i.2) at in
        subst (λ (hs : List (List ℕ)). In h hs) (sym (reach_listed (of n) f (g f))) (listed_there (λ i. (of n i).reach) f (g f) i.0 h i.1 below);
    imports = λ f k s. s;
  }

  -- ---- exports

  public_out : (b : Bool) (h : List ℕ) (hs : List (List ℕ)) → In h (cond b hs []) → (b ≡ true) × In h hs
  public_out true h hs at = (refl, at)
  public_out false h hs at = absurd at

  public_in : (b : Bool) (h : List ℕ) (hs : List (List ℕ)) → b ≡ true → In h hs → In h (cond b hs [])
  public_in b h hs e at = subst (λ (x : Bool). In h (cond x hs [])) (sym e) at

  exports_grow : Grows g (ImportsPublicly g) (λ n f. (links_within g n f).exports)
  unfolding links_within
  exports_grow = record {
    none = λ f h at. at;
    splits = λ n f h at.
        let o = listed_out (exported (of n)) f (g f) h (subst (λ (hs : List (List ℕ)). In h hs) (exports_listed (of n) f (g f)) at) in (
          o.0,
          elim o.1 [
            | inl e ↦ inl e
            | inr r ↦ let p = public_out r.0.is_public h (of n r.0).exports r.2 in inr (r.0.file, (r.0, r.1, p.0, refl), p.1)
          ],
        );
    here = λ n f some. subst (λ (hs : List (List ℕ)). In f hs) (sym (exports_listed (of n) f (g f))) (listed_here (exported (of n)) f (g f) some);
    there = λ n f k h s at.
        let below : In h (of n s.0).exports = subst (λ (z : List ℕ). In h (links_within g n z).exports) (sym s.3) at in
        subst (λ (hs : List (List ℕ)). In h hs) (sym (exports_listed (of n) f (g f)))
        (listed_there (exported (of n)) f (g f) s.0 h s.1 (public_in s.0.is_public h (of n s.0).exports s.2 below));
    imports = λ f k s. subst (λ (z : List ℕ). In z (imported g f)) s.3 (import_in s.0 (unwrap_or (g f) []) s.1);
  }

  -- ---- visible files

  view_out : (n : ℕ) (f h : List ℕ) → In h (links_within g n f).visible → IsSome (g h) × IsInView g f h
  unfolding links_within
  view_out zero f h at = absurd at
  view_out (suc n) f h at =
      let o = listed_out (λ i. (of n i).exports) f (g f) h (subst (λ (hs : List (List ℕ)). In h hs) (visible_listed (of n) f (g f)) at) in
      elim o.1 [
        | inl e ↦ (subst (λ (z : List ℕ). IsSome (g z)) (sym e) o.0, inl (sym e))
        | inr r ↦
            let t = sound g (ImportsPublicly g) (λ m z. (links_within g m z).exports) exports_grow n r.0.file h r.2 in
            (t.0, inr (r.0.file, import_in r.0 (unwrap_or (g f) []) r.1, t.1))
      ]

  view_in : (n : ℕ) (f h : List ℕ) → EndsWithin g n f → IsSome (g h) → IsInView g f h → In h (links_within g n f).visible
  unfolding links_within EndsWithin
  view_in zero f h ends some view = absurd ends
  view_in (suc n) f h ends some (inl e) =
      let here : In f (listed (λ i. (of n i).exports) f (g f)) = listed_here (λ i. (of n i).exports) f (g f) (subst (λ (z : List ℕ). IsSome (g z)) (sym e) some) in
      subst (λ (z : List ℕ). In z (links_or_none f (of n) (g f)).visible) e (subst (λ (hs : List (List ℕ)). In f hs) (sym (visible_listed (of n) f (g f))) here)
  view_in (suc n) f h ends some (inr v) =
      let i = import_of v.0 (unwrap_or (g f) []) v.1 in
      let at = complete g (ImportsPublicly g) (λ m z. (links_within g m z).exports) exports_grow n v.0 h (each_in (EndsWithin g n) v.0 (imported g f) ends v.1) some v.2 in
      let below : In h (of n i.0).exports = subst (λ (z : List ℕ). In h (links_within g n z).exports) (sym i.2) at in
      subst (λ (hs : List (List ℕ)). In h hs) (sym (visible_listed (of n) f (g f))) (listed_there (λ i. (of n i).exports) f (g f) i.0 h i.1 below)

  -- ---- each name once

  -- `OnceIn l` is that each list of the links `l` has each name once
  abbrev OnceIn : Links → Type 0
  OnceIn l = IsDistinct bytes_eq l.reach × IsDistinct bytes_eq l.exports × IsDistinct bytes_eq l.visible

  once_within : (n : ℕ) (f : List ℕ) → OnceIn (links_within g n f)
  unfolding links_within IsDistinct
  once_within zero f = (tt, tt, tt)
  once_within (suc n) f = (
    subst (IsDistinct bytes_eq) (sym (reach_listed (of n) f (g f))) (listed_once (λ i. (of n i).reach) f (g f)),
    subst (IsDistinct bytes_eq) (sym (exports_listed (of n) f (g f))) (listed_once (exported (of n)) f (g f)),
    subst (IsDistinct bytes_eq) (sym (visible_listed (of n) f (g f))) (listed_once (λ i. (of n i).exports) f (g f)),
  )

  -- ---- the links of a good file

  module _ (f h : List ℕ) (l : Links) (are : AreLinks g f l) where
    pub reaches : In h l.reach ↔ (IsSome (g h) × LeadsTo g f h)
    reaches =
        let names = λ (n : ℕ) (z : List ℕ). (links_within g n z).reach in (
          λ at. sound g (Imports g) names reach_grows are.0 f h (subst (λ (x : Links). In h x.reach) are.2 at),
          λ w. subst (λ (x : Links). In h x.reach) (sym are.2) (complete g (Imports g) names reach_grows are.0 f h are.1 w.0 w.1),
        )

    pub exports : In h l.exports ↔ (IsSome (g h) × LeadsPublicly g f h)
    exports =
        let names = λ (n : ℕ) (z : List ℕ). (links_within g n z).exports in (
          λ at. sound g (ImportsPublicly g) names exports_grow are.0 f h (subst (λ (x : Links). In h x.exports) are.2 at),
          λ w. subst (λ (x : Links). In h x.exports) (sym are.2) (complete g (ImportsPublicly g) names exports_grow are.0 f h are.1 w.0 w.1),
        )

    pub sees : In h l.visible ↔ (IsSome (g h) × IsInView g f h)
    sees = (
      λ at. view_out are.0 f h (subst (λ (x : Links). In h x.visible) are.2 at),
      λ w. subst (λ (x : Links). In h x.visible) (sym are.2) (view_in are.0 f h are.1 w.0 w.1),
    )

  pub once : (f : List ℕ) (l : Links) → AreLinks g f l → OnceIn l
  once f l are = subst OnceIn (sym are.2) (once_within are.0 f)
