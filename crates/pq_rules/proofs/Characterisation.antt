-- Answers, characterised by answers alone: the definition of `Means` with its levels and heights
-- does not appear in these statements.
--
-- A rule that ends in a value by right reads makes it the key's answer (`means_done`), and back
-- (`done_means`). Keys that wait round have their ring (`means_ring`), a key that waits for a key
-- with a cycle has that cycle (`means_passed`), and back (`cycle_waits`, `cycle_round`,
-- `cycle_leads`). The public laws of src/laws.rt are these.
use Rattle.std.proofs.Common.{◌≡◌, ℕ, zero, suc, ◌⊎◌, ◌<◌, ◌≤◌, List, [], ◌∷◌, ◌++◌, refl, sym, ◌∙◌, ap, subst, inl, inr, arith, append-nil}
use Rattle.std.specs.declared.cmp.Ordering.{Ordering}
use Rattle.std.specs.declared.cmp.Ordering.TheVariants.{Less}
use Rattle.pq_rules.specs.declared.turn.Turn.{Turn}
use Rattle.pq_rules.specs.declared.turn.Turn.TheVariants.{Ask, Done}
use Rattle.pq_rules.specs.declared.turn.Answer.{Answer}
use Rattle.pq_rules.specs.declared.turn.Answer.TheVariants.{Value, Cycle}
use Rattle.pq_rules.specs.Turns.{Instance}
use Rattle.pq_rules.specs.Relations.{Each, In, Chain, Leads, IsRing, LeadsInto, Round}
use Rattle.pq_rules.specs.Value.{Trace, Follows, Right, Settles, IsSettled, Asks, Unsettled, Next, Answers, Below, Means, RightRead, ComesTo, Waits}
use Rattle.pq_rules.specs.aux.Runs.{means_at}
use Rattle.pq_rules.proofs.Settled.{Lower, each_map, settled_by, settled_trace, round_unsettled}
use Rattle.pq_rules.proofs.Rings.{Strict, comes_back, each_in, in_turned}
use Rattle.pq_rules.proofs.Uniqueness.{below_lower, below_means, means_below, cycle_unsettled}

-- the facts of level l at the answers below it
abbrev pub RightAt : {K P V : Type 0} → Instance K P V → ℕ → K × Answer K V → Type 0
RightAt m l = Right m (Below m l) (IsSettled m (Below m l) l) l

pub at_means : {K P V : Type 0} (m : Instance K P V) (l : ℕ) (k : K) (a : Answer K V) → m.level k ≡ l
    → Answers m (Below m l) l k a → Means m k a
unfolding Means
at_means m l k a at h = subst (λ (i : ℕ). Answers m (Below m i) i k a) (sym at) h

pub under_or_at : (n i : ℕ) → n ≤ i → (n < i) ⊎ (n ≡ i)
under_or_at n i h = grind arith

pub told_right : {K P V : Type 0} (m : Instance K P V) (l : ℕ) (e : K × Answer K V) → RightRead m (suc l) e → RightAt m (suc l) e
unfolding Right Answers
told_right {K} {P} {V} m l e t =
    elim (under_or_at (m.level e.0) (suc l) t.no_higher) [
      | inl h ↦ inl (means_below m (suc l) e.0 e.1 h t.means)
      | inr h ↦
          let v = t.value h in
          let mean : Means m e.0 (Value v.0) = subst (λ (a : Answer K V). Means m e.0 a) v.1 t.means in
          inr (v.0, h, v.1, means_at m (suc l) e.0 (Value v.0) h mean)
    ]

pub right_told : {K P V : Type 0} (m : Instance K P V) (l : ℕ) (e : K × Answer K V) → RightAt m (suc l) e → RightRead m (suc l) e
unfolding Right Answers
right_told {K} {P} {V} m l e (inl b) =
    let x = below_means m (suc l) e.0 e.1 b in
    let h : m.level e.0 < suc l = x.0 in
    record { no_higher = omega arith; means = x.1; value = λ at. absurd (omega arith) }
right_told {K} {P} {V} m l e (inr b) =
    let h : m.level e.0 ≡ suc l = b.1 in
    let mean : Means m e.0 (Value b.0) = at_means m (suc l) e.0 (Value b.0) b.1 b.3 in
    record {
      no_higher = omega arith;
      means = subst (λ (a : Answer K V). Means m e.0 a) (sym b.2) mean;
      value = λ at. (b.0, b.2);
    }

-- a rule that ends in a value
pub means_done : {K P V : Type 0} (m : Instance K P V) (k : K) (v : V) → 0 < m.level k
    → ComesTo m k (Done v) → Means m k (Value v)
unfolding Answers
means_done {K} {P} {V} m k v up c = at_level (m.level k) refl up
  where
    at_level : (l : ℕ) → m.level k ≡ l → 0 < l → Means m k (Value v)
    at_level zero at h = absurd (omega arith)
    at_level (suc l) at h =
        at_means m (suc l) k (Value v) at
        (settled_by m (Below m (suc l)) (suc l) k v c.0 c.1.follows
        (each_map (RightRead m (suc l)) (RightAt m (suc l)) c.0 (told_right m l)
        (subst (λ (i : ℕ). Each (RightRead m i) c.0) at c.1.told)))

pub settled_comes : {K P V : Type 0} (m : Instance K P V) (l h : ℕ) (k : K) (v : V) → m.level k ≡ suc l
    → Settles m (Below m (suc l)) (suc l) h k v → ComesTo m k (Done v)
unfolding Settles
settled_comes m l zero k v at s = absurd s
settled_comes {K} {P} {V} m l (suc h) k v at s = (
  s.0,
  record {
    follows = s.1;
    told = subst (λ (i : ℕ). Each (RightRead m i) s.0) (sym at)
        (each_map (RightAt m (suc l)) (RightRead m (suc l)) s.0 (right_told m l)
        (settled_trace m (Below m (suc l)) (suc l) h s.0 s.2));
  },
)

-- a value comes of a rule that ends in it
pub done_means : {K P V : Type 0} (m : Instance K P V) (k : K) (v : V) → 0 < m.level k
    → Means m k (Value v) → ComesTo m k (Done v)
unfolding Answers IsSettled
done_means {K} {P} {V} m k v up c = at_level (m.level k) refl up
  where
    at_level : (l : ℕ) → m.level k ≡ l → 0 < l → ComesTo m k (Done v)
    at_level zero at h = absurd (omega arith)
    at_level (suc l) at h = let s = means_at m (suc l) k (Value v) at c in settled_comes m l s.0 k v at s.1

comes_asks : {K P V : Type 0} (m : Instance K P V) (l : ℕ) (k q : K) (p : P) → m.level k ≡ suc l
    → ComesTo m k (Ask q p) → Asks m (Below m (suc l)) (suc l) k q
unfolding Asks
comes_asks {K} {P} {V} m l k q p at c = (
  c.0,
  p,
  c.1.follows,
  each_map (RightRead m (suc l)) (RightAt m (suc l)) c.0 (told_right m l)
      (subst (λ (i : ℕ). Each (RightRead m i) c.0) at c.1.told),
)

-- what waits for an unsettled key of its level leads to it next
waits_next : {K P V : Type 0} (m : Instance K P V) (l : ℕ) (k q : K) → m.level k ≡ suc l
    → Waits m k q → Unsettled m (Below m (suc l)) (suc l) q → Next m (Below m (suc l)) (suc l) k q
unfolding Next Waits
waits_next m l k q at w un = (comes_asks m l k q w.1.0 at w.1.1, w.0 ∙ at, un)

-- the next in a round
goes_on : {K : Type 0} (N : K → K → Type 0) (k : K) (xs : List K) (z x : K) → Chain N k xs z → In x (k ∷ xs)
    → (y : K) × N x y × In y (xs ++ z ∷ [])
unfolding Chain
goes_on {K} N k [] z x c (inl p) = (z, subst (λ (w : K). N w z) (sym p) c, inl refl)
goes_on N k [] z x c (inr i) = absurd i
goes_on {K} N k (y ∷ ys) z x c (inl p) = (y, subst (λ (w : K). N w y) (sym p) c.0, inl refl)
goes_on N k (y ∷ ys) z x c (inr i) = let g = goes_on N y ys z x c.1 i in (g.0, g.1, inr g.2)

-- the keys of a round are of one level
same_level : {K P V : Type 0} (m : Instance K P V) (l : ℕ) (k : K) (xs : List K) (z : K) → m.level k ≡ l
    → Chain (Waits m) k xs z → Each (λ x. m.level x ≡ l) (k ∷ xs)
unfolding Chain Waits
same_level m l k [] z at c = (at, tt)
same_level m l k (x ∷ xs) z at c = (at, same_level m l x xs z (c.0.0 ∙ at) c.1)

module _ {K P V : Type 0} (m : Instance K P V) (strict : Strict m.order) (l : ℕ) where
  low : Lower m (Below m (suc l)) (suc l)
  low = below_lower m strict (suc l)

  -- the keys of a round are not settled
  round_un : (z : K) (zs : List K) → m.level z ≡ suc l → Chain (Waits m) z zs z
      → (x : K) → In x (z ∷ zs) → Unsettled m (Below m (suc l)) (suc l) x
  unfolding Unsettled IsSettled Waits
  round_un z zs at c x i v s =
      let levels : Each (λ y. m.level y ≡ suc l) (z ∷ zs) = same_level m (suc l) z zs z at c in
      round_unsettled m (Below m (suc l)) (suc l) low (λ y. In y (z ∷ zs))
      (λ y j.
      let g = goes_on (Waits m) z zs z y c j in
      let here : m.level y ≡ suc l = each_in (λ w. m.level w ≡ suc l) y (z ∷ zs) levels j in
      (g.0, comes_asks m l y g.0 g.1.1.0 here g.1.1.1, g.1.0 ∙ here, in_turned g.0 z zs g.2))
      s.0 x v i s.1

  round_next : (z : K) (zs : List K) → m.level z ≡ suc l → Chain (Waits m) z zs z
      → (x y : K) → In x (z ∷ zs) → In y (z ∷ zs) → Waits m x y → Next m (Below m (suc l)) (suc l) x y
  round_next z zs at c x y i j w =
      let levels : Each (λ y. m.level y ≡ suc l) (z ∷ zs) = same_level m (suc l) z zs z at c in
      waits_next m l x y (each_in (λ w. m.level w ≡ suc l) x (z ∷ zs) levels i) w (round_un z zs at c y j)

chain_in : {K : Type 0} (M N : K → K → Type 0) (k : K) (xs : List K) (z : K) (ys : List K)
    → ((x y : K) → In x ys → In y ys → M x y → N x y)
    → In z ys → ((x : K) → In x (k ∷ xs) → In x ys) → Chain M k xs z → Chain N k xs z
unfolding Chain
chain_in M N k [] z ys f iz sub c = f k z (sub k (inl refl)) iz c
chain_in M N k (x ∷ xs) z ys f iz sub c = (
  f k x (sub k (inl refl)) (sub x (inr (inl refl))) c.0,
  chain_in M N x xs z ys f iz (λ y j. sub y (inr j)) c.1,
)

-- each key of a round has the round as its answer, from its least key on
pub means_ring : {K P V : Type 0} (m : Instance K P V) → Strict m.order → (z : K) (zs : List K)
    → 0 < m.level z → Round (Waits m) (z ∷ zs) → Each (λ x. m.order z x ≡ Less) zs
    → (x : K) → In x (z ∷ zs) → Means m x (Cycle (z ∷ zs))
unfolding Round Answers IsRing LeadsInto Leads
means_ring {K} {P} {V} m strict z zs up c least x i = at_level (m.level z) refl up
  where
    at_level : (l : ℕ) → m.level z ≡ l → 0 < l → Means m x (Cycle (z ∷ zs))
    at_level zero at h = absurd (omega arith)
    at_level (suc l) at h =
        let next : Chain (Next m (Below m (suc l)) (suc l)) z zs z =
        chain_in (Waits m) (Next m (Below m (suc l)) (suc l)) z zs z (z ∷ zs)
        (λ a b j k w. round_next m strict l z zs at c a b j k w) (inl refl) (λ a j. j) c in
        let back = comes_back (Next m (Below m (suc l)) (suc l)) z zs z next x i in
        let levels : Each (λ y. m.level y ≡ suc l) (z ∷ zs) = same_level m (suc l) z zs z at c in
        at_means m (suc l) x (Cycle (z ∷ zs)) (each_in (λ w. m.level w ≡ suc l) x (z ∷ zs) levels i)
        ((next, least), inr back)

leads_by : {K : Type 0} (N : K → K → Type 0) (k q : K) (r : List K) → N k q → LeadsInto N q r → LeadsInto N k r
unfolding LeadsInto Leads Chain
leads_by N k q [] n i = absurd i
leads_by {K} N k q (z ∷ zs) n (inl p) = inr ([], subst (λ (x : K). N k x) p n)
leads_by N k q (z ∷ zs) n (inr c) = inr (q ∷ c.0, (n, c.1))

-- a key that waits for a key of its level that has a cycle has that cycle
pub means_passed : {K P V : Type 0} (m : Instance K P V) → Strict m.order → (k q : K) (r : List K)
    → 0 < m.level k → Waits m k q → Means m q (Cycle r) → Means m k (Cycle r)
unfolding Answers Waits
means_passed {K} {P} {V} m strict k q r up w c = at_level (m.level k) refl up
  where
    at_level : (l : ℕ) → m.level k ≡ l → 0 < l → Means m k (Cycle r)
    at_level zero at h = absurd (omega arith)
    at_level (suc l) at h =
        let there = means_at m (suc l) q (Cycle r) (w.0 ∙ at) c in
        let un = cycle_unsettled m (Below m (suc l)) (suc l) (below_lower m strict (suc l)) q r there.0 there.1 in
        let next = waits_next m l k q at w un in
        at_means m (suc l) k (Cycle r) at
        (there.0, leads_by (Next m (Below m (suc l)) (suc l)) k q r next there.1)

pub asks_comes : {K P V : Type 0} (m : Instance K P V) (l : ℕ) (k q : K) → m.level k ≡ suc l
    → Asks m (Below m (suc l)) (suc l) k q → (p : P) × ComesTo m k (Ask q p)
unfolding Asks
asks_comes {K} {P} {V} m l k q at a = (
  a.1,
  (
    a.0,
    record {
      follows = a.2;
      told = subst (λ (i : ℕ). Each (RightRead m i) a.0) (sym at)
          (each_map (RightAt m (suc l)) (RightRead m (suc l)) a.0 (right_told m l) a.3);
    },
  ),
)

-- the first step of a way into a ring: it leads on into the ring
first_step : {K : Type 0} (N : K → K → Type 0) (order : K → K → Ordering) (k : K) (r : List K)
    → IsRing order N r → LeadsInto N k r → (q : K) × N k q × LeadsInto N q r
unfolding IsRing LeadsInto Leads Chain
first_step N order k [] a i = absurd a
first_step {K} N order k (z ∷ []) a (inl p) =
    (z, subst (λ (x : K). N x z) (sym p) a.0, inl refl)
first_step {K} N order k (z ∷ (y ∷ ys)) a (inl p) =
    (y, subst (λ (x : K). N x y) (sym p) a.0.0, inr (ys, a.0.1))
first_step N order k (z ∷ zs) a (inr ([], d)) = (z, d, inl refl)
first_step N order k (z ∷ zs) a (inr (y ∷ ys, d)) = (y, d.0, inr (ys, d.1))

-- a key with a cycle waits for a key of its level with that cycle
pub cycle_waits : {K P V : Type 0} (m : Instance K P V) → (k : K) (r : List K)
    → 0 < m.level k → Means m k (Cycle r) → (q : K) × Waits m k q × Means m q (Cycle r)
unfolding Answers Waits Next
cycle_waits {K} {P} {V} m k r up c = at_level (m.level k) refl up
  where
    at_level : (l : ℕ) → m.level k ≡ l → 0 < l → (q : K) × Waits m k q × Means m q (Cycle r)
    at_level zero at h = absurd (omega arith)
    at_level (suc l) at h =
        let here = means_at m (suc l) k (Cycle r) at c in
        let step = first_step (Next m (Below m (suc l)) (suc l)) m.order k r here.0 here.1 in (
          step.0,
          (step.1.1 ∙ sym at, asks_comes m l k step.0 at step.1.0),
          at_means m (suc l) step.0 (Cycle r) step.1.1 (here.0, step.2),
        )

follows_one_more : {K P V : Type 0} (m : Instance K P V) (t : Turn K P V) (es : Trace K V) (q : K) (p : P) (a : Answer K V)
    → Follows m t es (Ask q p) → Follows m t (es ++ (q, a) ∷ []) (m.advance p a)
unfolding Follows
follows_one_more m t [] q p a f = (p, f, refl)
follows_one_more m t (e ∷ es) q p a f = (f.0, f.1, follows_one_more m (m.advance f.0 e.1) es q p a f.2)

pub each_append : {A : Type 0} (P : A → Type 0) (xs ys : List A) → Each P xs → Each P ys → Each P (xs ++ ys)
each_append P [] ys a b = b
each_append P (x ∷ xs) ys a b = (a.0, each_append P xs ys a.1 b)

pub comes_start : {K P V : Type 0} (m : Instance K P V) (k : K) → ComesTo m k (m.start k)
unfolding Follows
comes_start m k = ([], record { follows = refl; told = tt })

pub comes_on : {K P V : Type 0} (m : Instance K P V) (k q : K) (p : P) (a : Answer K V)
    → ComesTo m k (Ask q p) → RightRead m (m.level k) (q, a) → ComesTo m k (m.advance p a)
comes_on m k q p a c t = (
  c.0 ++ (q, a) ∷ [],
  record {
    follows = follows_one_more m (m.start k) c.0 q p a c.1.follows;
    told = each_append (RightRead m (m.level k)) c.0 ((q, a) ∷ []) c.1.told (t, tt);
  },
)

chain_split : {K : Type 0} (N : K → K → Type 0) (a : K) (xs : List K) (z : K) (ys : List K) (b : K)
    → Chain N a (xs ++ z ∷ ys) b → Chain N a xs z × Chain N z ys b
unfolding Chain
chain_split N a [] z ys b c = (c.0, c.1)
chain_split N a (x ∷ xs) z ys b c = let s = chain_split N x xs z ys b c.1 in ((c.0, s.0), s.1)

chain_join : {K : Type 0} (N : K → K → Type 0) (a : K) (xs : List K) (z : K) (ys : List K) (b : K)
    → Chain N a xs z → Chain N z ys b → Chain N a (xs ++ z ∷ ys) b
unfolding Chain
chain_join N a [] z ys b c d = (c, d)
chain_join N a (x ∷ xs) z ys b c d = (c.0, chain_join N x xs z ys b c.1 d)

-- a round may begin at any of its keys
pub round_turned : {K : Type 0} (N : K → K → Type 0) (front : List K) (z : K) (back : List K)
    → Round N (front ++ z ∷ back) → Round N (z ∷ (back ++ front))
unfolding Round
round_turned N [] z back r = rw append-nil r
round_turned N (a ∷ xs) z back r =
    let s = chain_split N a xs z back a r in chain_join N z back a xs z s.1 s.0

pub means_input : {K P V : Type 0} (m : Instance K P V) (k : K) (v : V) → m.level k ≡ 0 → v ≡ m.input k → Means m k (Value v)
unfolding Answers
means_input {K} {P} {V} m k v at e = at_means m 0 k (Value v) at (ap (λ (x : V). Value x) e)

ring_waits : {K P V : Type 0} (m : Instance K P V) (l : ℕ) (k : K) (xs : List K) (z : K) → m.level k ≡ suc l
    → Chain (Next m (Below m (suc l)) (suc l)) k xs z → Chain (Waits m) k xs z
unfolding Chain Next Waits
ring_waits m l k [] z at c = (c.1 ∙ sym at, asks_comes m l k z at c.0)
ring_waits m l k (x ∷ xs) z at c = ((c.0.1 ∙ sym at, asks_comes m l k x at c.0.0), ring_waits m l x xs z c.0.1 c.1)

chain_end : {K P V : Type 0} (m : Instance K P V) (l : ℕ) (k : K) (xs : List K) (z : K)
    → Chain (Next m (Below m (suc l)) (suc l)) k xs z → m.level z ≡ suc l
unfolding Chain Next
chain_end m l k [] z c = c.1
chain_end m l k (x ∷ xs) z c = chain_end m l x xs z c.1

-- the keys of a cycle wait round
pub cycle_round : {K P V : Type 0} (m : Instance K P V) (k : K) (r : List K)
    → 0 < m.level k → Means m k (Cycle r) → IsRing m.order (Waits m) r
unfolding Answers IsRing
cycle_round {K} {P} {V} m k r up c = at_level (m.level k) refl up
  where
    ring_of : (l : ℕ) (r : List K) → IsRing m.order (Next m (Below m (suc l)) (suc l)) r → IsRing m.order (Waits m) r
    ring_of l [] i = i
    ring_of l (z ∷ zs) i = (ring_waits m l z zs z (chain_end m l z zs z i.0) i.0, i.1)

    at_level : (l : ℕ) → m.level k ≡ l → 0 < l → IsRing m.order (Waits m) r
    at_level zero at h = absurd (omega arith)
    at_level (suc l) at h = let here = means_at m (suc l) k (Cycle r) at c in ring_of l r here.0

leads_waits : {K P V : Type 0} (m : Instance K P V) (l : ℕ) (k : K) (r : List K) → m.level k ≡ suc l
    → LeadsInto (Next m (Below m (suc l)) (suc l)) k r → LeadsInto (Waits m) k r
unfolding LeadsInto Leads
leads_waits m l k [] at i = i
leads_waits m l k (z ∷ zs) at (inl e) = inl e
leads_waits m l k (z ∷ zs) at (inr c) = inr (c.0, ring_waits m l k c.0 z at c.1)

-- a key with a cycle leads into the cycle by keys each of which waits for the next
pub cycle_leads : {K P V : Type 0} (m : Instance K P V) (k : K) (r : List K)
    → 0 < m.level k → Means m k (Cycle r) → LeadsInto (Waits m) k r
unfolding Answers
cycle_leads {K} {P} {V} m k r up c = at_level (m.level k) refl up
  where
    at_level : (l : ℕ) → m.level k ≡ l → 0 < l → LeadsInto (Waits m) k r
    at_level zero at h = absurd (omega arith)
    at_level (suc l) at h = leads_waits m l k r at (means_at m (suc l) k (Cycle r) at c).1
