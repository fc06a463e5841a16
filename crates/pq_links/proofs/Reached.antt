-- A file reaches each file that it exports and each that it sees.
use Rattle.std.proofs.Common.{◌≡◌, ℕ, zero, suc, Bool, true, false, cond, not, List, [], ◌∷◌, map, Option, Some, None, refl, sym, ap, subst, ◌∙◌, inl, inr}
use Rattle.std.specs.Prelude.{bytes_eq, filter}
use Rattle.std.proofs.lemmas.Slice.Eq.{bytes_eq-Decides}
use Rattle.pq_rules.specs.Relations.{Each, In}
use Rattle.pq_rules.specs.aux.Lists.{in_append_left, in_append_right}
use Rattle.pq_links.specs.ImportGraph.{Graph}
use Rattle.pq_links.specs.Once.{each_once}
use Rattle.pq_links.specs.Visibility.{firsts, passed_on, shown, reached, links_by, links_or_none, links_within}
use Rattle.pq_rules.proofs.Characterisation.{each_append}
use Rattle.pq_links.proofs.NameKinds.{firsts_in}
use Rattle.pq_links.specs.declared.links.Import.{Import}
use Rattle.pq_links.specs.declared.links.Links.{Links}
use Rattle.pq_names.proofs.Cases.{either}

in_filter : (p : List ℕ → Bool) (x : List ℕ) (xs : List (List ℕ)) → p x ≡ true → In x xs → In x (filter p xs)
in_filter p x [] t i = i
in_filter p x (y ∷ ys) t (inl e) = subst (λ b. In x (cond b (y ∷ filter p ys) (filter p ys))) (sym (ap p (sym e) ∙ t)) (inl e)
in_filter p x (y ∷ ys) t (inr i) = either (p y) (λ b. In x (cond b (y ∷ filter p ys) (filter p ys))) (λ _. inr (in_filter p x ys t i)) (λ _. in_filter p x ys t i)

by_test : (y x : List ℕ) (rest : List (List ℕ)) (b : Bool) → bytes_eq y x ≡ b → In x rest → In x (y ∷ filter (λ z. not (bytes_eq y z)) rest)
by_test y x rest true e i = inl (sym ((bytes_eq-Decides y x).0 e))
by_test y x rest false e i = inr (in_filter (λ z. not (bytes_eq y z)) x rest (ap not e) i)

pub has_firsts : (x : List ℕ) (xs : List (List ℕ)) → In x xs → In x (firsts xs)
unfolding each_once
has_firsts x [] i = i
has_firsts x (y ∷ ys) (inl e) = inl e
has_firsts x (y ∷ ys) (inr i) = by_test y x (firsts ys) (bytes_eq y x) refl (has_firsts x ys i)

-- `Within xs ys` is that each of `xs` is in `ys`
abbrev pub Within : List (List ℕ) → List (List ℕ) → Type 0
Within xs ys = Each (λ x. In x ys) xs

within_sub : (xs ys zs : List (List ℕ)) → ((w : List ℕ) → In w ys → In w zs) → Within xs ys → Within xs zs
within_sub [] ys zs sub a = tt
within_sub (x ∷ xs) ys zs sub a = (sub x a.0, within_sub xs ys zs sub a.1)

public_within : (b : Bool) (xs ys : List (List ℕ)) → Within xs ys → Within (cond b xs []) ys
public_within true xs ys a = a
public_within false xs ys a = tt

passed_within : (pairs : List (Import × Links)) (all : List (List ℕ)) → Each (λ e. Within e.1.exports e.1.reach) pairs → ((w : List ℕ) → In w (reached pairs) → In w all) → Within (passed_on pairs) all
passed_within [] all a sub = tt
passed_within (e ∷ es) all a sub =
    each_append (λ w. In w all) (cond e.0.is_public e.1.exports []) (passed_on es)
    (public_within e.0.is_public e.1.exports all (within_sub e.1.exports e.1.reach all (λ w i. sub w (in_append_left w e.1.reach (reached es) i)) a.0))
    (passed_within es all a.1 (λ w i. sub w (in_append_right w e.1.reach (reached es) i)))

shown_within : (pairs : List (Import × Links)) (all : List (List ℕ)) → Each (λ e. Within e.1.exports e.1.reach) pairs → ((w : List ℕ) → In w (reached pairs) → In w all) → Within (shown pairs) all
shown_within [] all a sub = tt
shown_within (e ∷ es) all a sub =
    each_append (λ w. In w all) e.1.exports (shown es)
    (within_sub e.1.exports e.1.reach all (λ w i. sub w (in_append_left w e.1.reach (reached es) i)) a.0)
    (shown_within es all a.1 (λ w i. sub w (in_append_right w e.1.reach (reached es) i)))

-- `Reaches l` is that the files that `l` exports and shows are among those that it reaches
abbrev pub Reaches : Links → Type 0
Reaches l = Within l.exports l.reach × Within l.visible l.reach

links_reach : (f : List ℕ) (pairs : List (Import × Links)) → Each (λ e. Within e.1.exports e.1.reach) pairs → Reaches (links_by f pairs)
links_reach f pairs a =
    let all = firsts (f ∷ reached pairs) in
    let here : In f all = has_firsts f (f ∷ reached pairs) (inl refl) in
    let sub : (w : List ℕ) → In w (reached pairs) → In w all = λ w i. has_firsts w (f ∷ reached pairs) (inr i) in
    (firsts_in (λ w. In w all) (f ∷ passed_on pairs) (here, passed_within pairs all a sub), firsts_in (λ w. In w all) (f ∷ shown pairs) (here, shown_within pairs all a sub))

each_reach : (g : Graph) (n : ℕ) → ((f : List ℕ) → Reaches (links_within g n f)) → (is : List Import) → Each (λ (e : Import × Links). Within e.1.exports e.1.reach) (map (λ i. (i, links_within g n i.file)) is)
each_reach g n h [] = tt
each_reach g n h (i ∷ is) = ((h i.file).0, each_reach g n h is)

reach_by : (g : Graph) (n : ℕ) → ((f : List ℕ) → Reaches (links_within g n f)) → (f : List ℕ) (o : Option (List Import)) → Reaches (links_or_none f (λ i. links_within g n i.file) o)
reach_by g n h f None = (tt, tt)
reach_by g n h f (Some is) = links_reach f (map (λ i. (i, links_within g n i.file)) is) (each_reach g n h is)

pub all_reached : (g : Graph) (n : ℕ) (f : List ℕ) → Reaches (links_within g n f)
unfolding links_within
all_reached g zero f = (tt, tt)
all_reached g (suc n) f = reach_by g n (all_reached g n) f (g f)
