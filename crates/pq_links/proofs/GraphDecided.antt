-- In a graph whose files import files of a list alone, each file is good or leads into a ring.
--
-- A walk that is longer than the list comes to a file twice. Its steps go to the first file from
-- which a long walk starts, so between the two it is a round of next files.
use Rattle.std.proofs.Common.{◌≡◌, ◌⊎◌, ℕ, zero, suc, ◌<◌, true, false, List, [], ◌∷◌, ◌++◌, length, refl, sym, ap, subst, ◌∙◌, inl, inr, arith, length-append}
use Rattle.std.specs.Str.{bytes_eq}
use Rattle.std.specs.Cmp.Lexicographic.{slice_cmp}
use Rattle.std.specs.Ordering.{nat_cmp, ordering_reverse}
use Rattle.std.specs.declared.cmp.Ordering.{Ordering}
use Rattle.std.specs.declared.cmp.Ordering.TheVariants.{Less, Equal, Greater}
use Rattle.std.proofs.lemmas.Bool.{cases_Bool}
use Rattle.std.proofs.lemmas.Cmp.{nat_list_cmp_total}
use Rattle.std.proofs.lemmas.Map.Lookups.{exact_bytes}
use Rattle.std.proofs.lemmas.Slice.Eq.{bytes_eq-Decides}
use Rattle.pq_rules.specs.Relations.{Each, In, Chain, Leads, Round, IsRing, LeadsInto}
use Rattle.pq_rules.specs.aux.Lists.{in_append, in_append_left, in_append_right}
use Rattle.pq_rules.proofs.Characterisation.{round_turned}
use Rattle.pq_rules.proofs.ListLemmas.{each_from}
use Rattle.pq_rules.proofs.Rings.{each_in}
use Rattle.pq_links.specs.ImportGraph.{Graph, imported, Walks, EndsWithin, IsBad, IsGood, IsNext, IsRingOf}
use Rattle.pq_links.proofs.GraphLemmas.{ends_or_walks}

abbrev Name : Type 0
Name = List ℕ

abbrev order : Name → Name → Ordering
order = slice_cmp nat_cmp

-- ---- lists and chains

is_name : (x y : Name) → (x ≡ y) ⊎ (x ≡ y → ⊥)
is_name x y = elim (cases_Bool (bytes_eq x y)) [
  | inl h ↦ inl ((bytes_eq-Decides x y).0 h)
  | inr h ↦ inr (λ e. let t : bytes_eq x y ≡ true = (bytes_eq-Decides x y).1 e in let f : true ≡ false = sym t ∙ h in cc)
]

is_in : (x : Name) (xs : List Name) → In x xs ⊎ (In x xs → ⊥)
is_in x [] = inr (λ i. i)
is_in x (y ∷ ys) = elim (is_name x y) [
  | inl e ↦ inl (inl e)
  | inr n ↦ elim (is_in x ys) [
    | inl i ↦ inl (inr i)
    | inr o ↦ inr (λ i. elim i [ inl e ↦ n e | inr j ↦ o j ])
  ]
]

-- a member splits a list
split_at : (x : Name) (xs : List Name) → In x xs → (front back : List Name) × (xs ≡ front ++ x ∷ back)
split_at x (y ∷ ys) (inl e) = ([], ys, ap (λ z. z ∷ ys) (sym e))
split_at x (y ∷ ys) (inr i) = let s = split_at x ys i in (y ∷ s.0, s.1, ap (λ zs. y ∷ zs) s.2)
split_at x [] i = absurd i

module _ (N : Name → Name → Type 0) where
  -- `Comes k z` is a chain from `k` to `z`
  abbrev Comes : Name → Name → Type 0
  Comes k z = (xs : List Name) × Chain N k xs z

  chain_more : (k : Name) (xs : List Name) (y z : Name) → Chain N k xs y → N y z → Chain N k (xs ++ y ∷ []) z
  unfolding Chain
  chain_more k [] y z c n = (c, n)
  chain_more k (x ∷ xs) y z c n = (c.0, chain_more x xs y z c.1 n)

  comes_more : (k y z : Name) → Comes k y → N y z → Comes k z
  comes_more k y z c n = (c.0 ++ y ∷ [], chain_more k c.0 y z c.1 n)

  -- the chain up to a file on it
  chain_to : (k : Name) (xs : List Name) (z x : Name) → Chain N k xs z → In x xs → Comes k x
  unfolding Chain
  chain_to k [] z x c i = absurd i
  chain_to k (y ∷ ys) z x c (inl e) = ([], subst (λ w. N k w) (sym e) c.0)
  chain_to k (y ∷ ys) z x c (inr i) = let t = chain_to y ys z x c.1 i in (y ∷ t.0, (c.0, t.1))

  chain_on : (k : Name) (xs : List Name) (y : Name) (ys : List Name) (z : Name) → Chain N k xs y → Chain N y ys z → Chain N k (xs ++ y ∷ ys) z
  unfolding Chain
  chain_on k [] y ys z c d = (c, d)
  chain_on k (x ∷ xs) y ys z c d = (c.0, chain_on x xs y ys z c.1 d)

  leads_on : (k y : Name) (ys : List Name) (z : Name) → Leads N k y → Chain N y ys z → Leads N k z
  unfolding Leads
  leads_on k y ys z (inl e) d = inr (ys, subst (λ w. Chain N w ys z) (sym e) d)
  leads_on k y ys z (inr c) d = inr (c.0 ++ y ∷ ys, chain_on k c.0 y ys z c.1 d)

  -- a chain, cut where it first comes to its end
  cut : (k : Name) (xs : List Name) (z : Name) → Chain N k xs z → (ys : List Name) × Chain N k ys z × (In z ys → ⊥) × ((x : Name) → In x ys → In x xs)
  unfolding Chain
  cut k [] z c = ([], c, λ i. i, λ x i. i)
  cut k (x ∷ xs) z c = elim (is_name x z) [
    | inl e ↦ ([], subst (λ w. N k w) e c.0, λ i. i, λ y i. absurd i)
    | inr n ↦ let t = cut x xs z c.1 in (x ∷ t.0, (c.0, t.1), λ i. elim i [ inl e ↦ n (sym e) | inr j ↦ t.2 j ], λ y i. elim i [ inl e ↦ inl e | inr j ↦ inr (t.3 y j) ])
  ]

-- ---- the least name of a list

abbrev AtLeast : Name → Name → Type 0
AtLeast z y = (y ≡ z) ⊎ (order z y ≡ Less)

compared : (x y : Name) → (x ≡ y) ⊎ ((order x y ≡ Less) ⊎ (order y x ≡ Less))
compared x y = by (order x y) refl
  where
    by : (o : Ordering) → order x y ≡ o → (x ≡ y) ⊎ ((order x y ≡ Less) ⊎ (order y x ≡ Less))
    by Less e = inr (inl e)
    by Equal e = inl (exact_bytes x y e)
    by Greater e = inr (inr (nat_list_cmp_total.antisymm y x ∙ ap ordering_reverse e))

below_all : (x z : Name) (ys : List Name) → order x z ≡ Less → Each (AtLeast z) ys → Each (AtLeast x) ys
below_all x z [] l a = tt
below_all x z (y ∷ ys) l a = (elim a.0 [ inl e ↦ inr (subst (λ w. order x w ≡ Less) (sym e) l) | inr m ↦ inr (nat_list_cmp_total.trans x z y l m) ], below_all x z ys l a.1)

least : (x : Name) (xs : List Name) → (z : Name) × In z (x ∷ xs) × Each (AtLeast z) (x ∷ xs)
least x [] = (x, inl refl, (inl refl, tt))
least x (y ∷ ys) =
    let t = least y ys in
    elim (compared x t.0) [
      | inl e ↦ (t.0, inr t.1, (inl e, t.2))
      | inr c ↦ elim c [
        | inl l ↦ (x, inl refl, (inl refl, below_all x t.0 (y ∷ ys) l t.2))
        | inr l ↦ (t.0, inr t.1, (inr l, t.2))
      ]
    ]

-- a round with its least name first, for a chain that comes back
ring_of : (N : Name → Name → Type 0) (f k : Name) (xs : List Name) → Leads N f k → Chain N k xs k
    → (ring : List Name) × IsRing order N ring × LeadsInto N f ring
unfolding IsRing LeadsInto Round
ring_of N f k xs lead c =
    let l = least k xs in
    let s = split_at l.0 (k ∷ xs) l.1 in
    let turned : Chain N l.0 (s.1 ++ s.0) l.0 = round_turned N s.0 l.0 s.1 (subst (λ zs. Round N zs) s.2 c) in
    let a = cut N l.0 (s.1 ++ s.0) l.0 turned in
    let member : (x : Name) → In x a.0 → In x (k ∷ xs) = λ x i. subst (λ zs. In x zs) (sym s.2) (elim (in_append x s.1 s.0 (a.3 x i)) [
      | inl j ↦ in_append_right x s.0 (l.0 ∷ s.1) (inr j)
      | inr j ↦ in_append_left x s.0 (l.0 ∷ s.1) j
    ]) in
    let low : (x : Name) → In x a.0 → order l.0 x ≡ Less = λ x i. elim (each_in (AtLeast l.0) x (k ∷ xs) l.2 (member x i)) [
      | inl e ↦ absurd (a.2 (subst (λ w. In w a.0) e i))
      | inr o ↦ o
    ] in
    let to : Leads N f l.0 = elim l.1 [
      | inl e ↦ subst (λ w. Leads N f w) (sym e) lead
      | inr i ↦ let t = chain_to N k xs k l.0 c i in leads_on N f k t.0 l.0 lead t.1
    ] in
    (l.0 ∷ a.0, (a.1, each_from (λ x. order l.0 x ≡ Less) a.0 low), to)

module _ (g : Graph) where
  -- ---- walks of a length, or none
  all_end : (n : ℕ) (hs : List Name) → ((h : Name) → EndsWithin g n h ⊎ Walks g n h) → Each (EndsWithin g n) hs ⊎ ((h : Name) × In h hs × Walks g n h)
  all_end n [] d = inl tt
  all_end n (h ∷ hs) d = elim (d h) [
    | inr w ↦ inr (h, inl refl, w)
    | inl e ↦ elim (all_end n hs d) [ inl es ↦ inl (e, es) | inr w ↦ inr (w.0, inr w.1, w.2) ]
  ]

  ends_walks : (n : ℕ) (f : Name) → EndsWithin g n f ⊎ Walks g n f
  unfolding EndsWithin Walks
  ends_walks zero f = inr tt
  ends_walks (suc n) f = all_end n (imported g f) (ends_walks n)

  -- `Half f h` is that the files before `h` among those that `f` imports are good
  abbrev Half : Name → Name → Type 0
  Half f h = (before after : List Name) × (imported g f ≡ before ++ h ∷ after) × Each (IsGood g) before

  first_walk : (n : ℕ) (hs : List Name) (x : Name) → In x hs → Walks g n x
      → (h : Name) × (before after : List Name) × (hs ≡ before ++ h ∷ after) × Each (IsGood g) before × Walks g n h
  first_walk n [] x i w = absurd i
  first_walk n (y ∷ ys) x i w = elim (ends_walks n y) [
    | inr v ↦ (y, [], ys, refl, tt, v)
    | inl e ↦ elim i [
      | inl p ↦ absurd (ends_or_walks g n y e (subst (Walks g n) p w))
      | inr j ↦ let t = first_walk n ys x j w in (t.0, y ∷ t.1, t.2, ap (λ zs. y ∷ zs) t.3, ((n, e), t.4), t.5)
    ]
  ]

  half_in : (f h : Name) → Half f h → In h (imported g f)
  half_in f h a = subst (λ hs. In h hs) (sym a.2) (in_append_right h a.0 (h ∷ a.1) (inl refl))

  -- ---- a file on a round, or on the way into one, is bad
  in_walks : (n : ℕ) (k : Name) (xs : List Name) (z : Name) → Chain Half k xs z → Walks g n z → ((x : Name) → In x xs → Walks g n x)
      → (x : Name) → In x (k ∷ xs) → Walks g (suc n) x
  unfolding Chain Walks
  in_walks n k [] z c w all x (inl e) = subst (Walks g (suc n)) (sym e) (z, half_in k z c, w)
  in_walks n k [] z c w all x (inr i) = absurd i
  in_walks n k (y ∷ ys) z c w all x (inl e) = subst (Walks g (suc n)) (sym e) (y, half_in k y c.0, all y (inl refl))
  in_walks n k (y ∷ ys) z c w all x (inr i) = in_walks n y ys z c.1 w (λ v j. all v (inr j)) x i

  round_walks : (n : ℕ) (z : Name) (zs : List Name) → Chain Half z zs z → (x : Name) → In x (z ∷ zs) → Walks g n x
  unfolding Walks
  round_walks zero z zs c x i = tt
  round_walks (suc n) z zs c x i = in_walks n z zs z c (round_walks n z zs c z (inl refl)) (λ v j. round_walks n z zs c v (inr j)) x i

  bad_before : (k h : Name) → Half k h → IsBad g h → IsBad g k
  unfolding Walks
  bad_before k h a b zero = tt
  bad_before k h a b (suc n) = (h, half_in k h a, b n)

  nexts : (k : Name) (xs : List Name) (z : Name) → Chain Half k xs z → IsBad g z → Chain (IsNext g) k xs z × IsBad g k
  unfolding Chain
  nexts k [] z c b = ((c.0, c.1, c.2, c.3, b), bad_before k z c b)
  nexts k (x ∷ xs) z c b = let t = nexts x xs z c.1 b in (((c.0.0, c.0.1, c.0.2, c.0.3, t.1), t.0), bad_before k x c.0 t.1)

  one : (x k h : Name) → x ≡ k → Half k h → Chain Half x [] h
  unfolding Chain
  one x k h e a = subst (λ w. Half w h) (sym e) a

  -- ---- the search: a long walk by first files comes to one of `seen` again, since each step takes a
  -- name from those that are `left`
  module _ (names : List Name) (closed : (f h : Name) → In h (imported g f) → In h names) where
    search : (n : ℕ) (f k : Name) (seen left : List Name) → In k names → Walks g n k → length left < n
        → ((x : Name) → In x names → In x seen ⊎ In x left)
        → ((x : Name) → In x seen → Comes Half x k) → Leads Half f k
        → (z : Name) × Leads Half f z × Comes Half z z
    unfolding Walks
    search zero f k seen left i w short all comes lead = absurd (omega arith)
    search (suc n) f k seen left i w short all comes lead = elim (is_in k seen) [
      | inl j ↦ (k, lead, comes k j)
      | inr o ↦
          let j : In k left = elim (all k i) [ inl p ↦ absurd (o p) | inr l ↦ l ] in
          let s = split_at k left j in
          let h = first_walk n (imported g k) w.0 w.1 w.2 in
          let half : Half k h.0 = (h.1, h.2, h.3, h.4) in
          let long : length left ≡ length (s.0 ++ k ∷ s.1) = ap length s.2 in
          let whole = length-append s.0 (k ∷ s.1) in
          let rest = length-append s.0 s.1 in
          search n f h.0 (k ∷ seen) (s.0 ++ s.1) (closed k h.0 (half_in k h.0 half)) h.5 (omega arith)
          (λ x p. elim (all x p) [
            | inl q ↦ inl (inr q)
            | inr q ↦ elim (in_append x s.0 (k ∷ s.1) (subst (λ zs. In x zs) s.2 q)) [
              | inl a ↦ inr (in_append_left x s.0 s.1 a)
              | inr b ↦ elim b [ inl e ↦ inl (inl e) | inr c ↦ inr (in_append_right x s.0 s.1 c) ]
            ]
          ])
          (λ x p. elim p [
            | inl e ↦ ([], one x k h.0 e half)
            | inr q ↦ comes_more Half x k h.0 (comes x q) half
          ])
          (leads_on Half f k [] h.0 lead (one k k h.0 refl half))
    ]

  -- each file of the graph is good or leads into a ring
  pub good_or_ring : (names : List Name) → ((f h : Name) → In h (imported g f) → In h names) → (f : Name) → IsGood g f ⊎ ((ring : List Name) × IsRingOf g f ring)
  unfolding Leads
  good_or_ring names closed f = elim (ends_walks (suc (length (f ∷ names))) f) [
    | inl e ↦ inl (suc (length (f ∷ names)), e)
    | inr w ↦
        let r = search (f ∷ names) (λ k h i. inr (closed k h i)) (suc (length (f ∷ names))) f f [] (f ∷ names) (inl refl) w (omega arith)
        (λ x i. inr i) (λ x i. absurd i) (inl refl) in
        let bad : IsBad g r.0 = λ n. round_walks n r.0 r.2.0 r.2.1 r.0 (inl refl) in
        let round = nexts r.0 r.2.0 r.0 r.2.1 bad in
        let lead : Leads (IsNext g) f r.0 = elim r.1 [ inl e ↦ inl e | inr c ↦ inr (c.0, (nexts f c.0 r.0 c.1 bad).0) ] in
        let o = ring_of (IsNext g) f r.0 r.2.0 lead round.0 in
        inr (o.0, (o.1, o.2))
  ]
