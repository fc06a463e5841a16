-- The frames of a ring of claims are a round, its runs started together, and each of them but the one
-- that claims waits.
--
-- `frames r` is the frames of the run `r`, `key` the key for which the run `run` would wait.
use Rattle.std.proofs.Common.{◌≡◌, ◌≢◌, ℕ, ◌≤◌, ◌⊎◌, ◌==◌, if◌then◌else◌, Bool, true, false, List, [], ◌∷◌, ◌++◌, Option, Some, refl, sym, ◌∙◌, ap, subst, inl, inr, arith, append_assoc}
use Rattle.std.proofs.lemmas.Bool.{eqb-true}
use Rattle.std.specs.declared.cmp.Ordering.{Ordering}
use Rattle.std.specs.declared.cmp.Ordering.TheVariants.{Less}
use Rattle.pq_inputs.specs.Sources.{Table}
use Rattle.pq_rules.specs.Turns.{Machine}
use Rattle.pq_rules.specs.Relations.{In, Each, Chain, IsRing}
use Rattle.pq_rules.specs.aux.Lists.{in_append_right}
use Rattle.pq_memo.specs.declared.stepping.frame.Frame.{Frame}
use Rattle.pq_memo.specs.Sound.{Memo}
use Rattle.pq_memo.specs.Table.{HasIn}
use Rattle.pq_memo.specs.Frames.{Awaits, RoundOf, IsRound, frame_keys}
use Rattle.pq_claims.specs.Claims.{Hold, hold_of, Holds, WaitsFor, AreSound, Differ, Precedes, IsLast, awaited, ComesNext}
use Rattle.pq_core.proofs.Changing.{if_other}

-- ---- lists

module _ {K : Type 0} where
  pub precedes_in : (ks : List K) (a b : K) → Precedes ks a b → In a ks × In b ks
  precedes_in ks a b p = (
    subst (λ (l : List K). In a l) (sym p.2) (in_append_right a p.0 (a ∷ b ∷ p.1) (inl refl)),
    subst (λ (l : List K). In b l) (sym p.2) (in_append_right b p.0 (a ∷ b ∷ p.1) (inr (inl refl))),
  )

  pub last_in : (ks : List K) (a : K) → IsLast ks a → In a ks
  last_in ks a l = subst (λ (m : List K). In a m) (sym l.1) (in_append_right a l.0 (a ∷ []) (inl refl))

  no_one : (front : List K) (a : K) (more : List K) → [] ≡ front ++ a ∷ more → ⊥
  no_one [] a more e = cc
  no_one (x ∷ front) a more e = cc

  pub head_same : (x y : K) (xs ys : List K) → x ∷ xs ≡ y ∷ ys → x ≡ y
  head_same x y xs ys e = cc

  tail_same : (x y : K) (xs ys : List K) → x ∷ xs ≡ y ∷ ys → xs ≡ ys
  tail_same x y xs ys e = cc

  -- where a key is in a list
  record Split (ks : List K) (k : K) : Type 0 where
    front : List K
    back : List K
    whole : ks ≡ front ++ k ∷ back

  split_at : (ks : List K) (k : K) → In k ks → Split ks k
  split_at [] k i = absurd i
  split_at (x ∷ ks) k (inl e) = record { front = []; back = ks; whole = ap (λ (y : K). y ∷ ks) (sym e) }
  split_at (x ∷ ks) k (inr i) = let s = split_at ks k i in record { front = x ∷ s.front; back = s.back; whole = ap (λ (l : List K). x ∷ l) s.whole }

  -- in a list of keys that differ, one list comes after a key
  pub one_back : (f g : List K) (k : K) (bs cs : List K) → Differ (f ++ k ∷ bs) → f ++ k ∷ bs ≡ g ++ k ∷ cs → bs ≡ cs
  one_back [] [] k bs cs d e = tail_same k k bs cs e
  one_back [] (y ∷ g) k bs cs d e =
      absurd (d.0 (subst (λ (l : List K). In k l) (sym (tail_same k y bs (g ++ k ∷ cs) e)) (in_append_right k g (k ∷ cs) (inl refl))))
  one_back (y ∷ f) [] k bs cs d e =
      absurd (d.0 (subst (λ (x : K). In x (f ++ k ∷ bs)) (sym (head_same y k (f ++ k ∷ bs) cs e)) (in_append_right k f (k ∷ bs) (inl refl))))
  one_back (y ∷ f) (z ∷ g) k bs cs d e = one_back f g k bs cs d.1 (tail_same y z (f ++ k ∷ bs) (g ++ k ∷ cs) e)

-- ---- chains

-- each key of a chain has a next one, on it
chain_next : {K : Type 0} (N : K → K → Type 0) (k : K) (xs : List K) (z : K) → Chain N k xs z → (y : K) → In y (k ∷ xs) → (b : K) × ((b ≡ z) ⊎ In b xs) × N y b
unfolding Chain
chain_next N k [] z c y (inl e) = (z, inl refl, subst (λ a. N a z) (sym e) c)
chain_next N k [] z c y (inr i) = absurd i
chain_next N k (x ∷ xs) z c y (inl e) = (x, inr (inl refl), subst (λ a. N a x) (sym e) c.0)
chain_next N k (x ∷ xs) z c y (inr i) =
    let r = chain_next N x xs z c.1 y i in
    (r.0, elim r.1 [ inl e ↦ inl e | inr j ↦ inr (inr j) ], r.2)

pub ring_next : {K : Type 0} (order : K → K → Ordering) (N : K → K → Type 0) (ring : List K) → IsRing order N ring → (y : K) → In y ring → (b : K) × In b ring × N y b
unfolding IsRing
ring_next order N [] r y i = absurd r
ring_next order N (z ∷ zs) r y i = let n = chain_next N z zs z r.0 y i in (n.0, n.1, n.2)

-- ---- frames

-- `Climbs order m inputs table wait fs` is that each of `fs` waits for the key of the next, and the
-- last for the key `wait`, if there is one
unfoldable pub Climbs : {K P V : Type 0} → (K → K → Ordering) → Machine K P V → Table → (K → Option (Memo K V)) → Option K → List (Frame K P) → Type 0
Climbs order m inputs table wait [] = Unit {0}
Climbs {K} order m inputs table wait (f ∷ []) =
    (k : K) → wait ≡ Some k → Awaits order m inputs.history inputs.revision (HasIn table) f.key f.stage k
Climbs order m inputs table wait (f ∷ (g ∷ fs)) =
    Awaits order m inputs.history inputs.revision (HasIn table) f.key f.stage g.key × Climbs order m inputs table wait (g ∷ fs)

module _ {K P V : Type 0} (order : K → K → Ordering) (m : Machine K P V) (inputs : Table) (table : K → Option (Memo K V)) where
  -- a frame in a list, of the key `a`, that waits for `b`
  record Found (fs : List (Frame K P)) (a b : K) : Type 0 where
    frame : Frame K P
    key : frame.key ≡ a
    awaits : Awaits order m inputs.history inputs.revision (HasIn table) frame.key frame.stage b
    there : In frame fs

  further : (f : Frame K P) (fs : List (Frame K P)) (a b : K) → Found fs a b → Found (f ∷ fs) a b
  further f fs a b x = record { frame = x.frame; key = x.key; awaits = x.awaits; there = inr x.there }

  -- the frame of a key that comes directly before another
  below : (wait : Option K) (fs : List (Frame K P)) (a b : K) (front back : List K) → frame_keys fs ≡ front ++ a ∷ b ∷ back → Climbs order m inputs table wait fs → Found fs a b
  unfolding Climbs
  below wait [] a b front back e c = absurd (no_one front a (b ∷ back) e)
  below wait (f ∷ []) a b [] back e c = absurd (no_one [] b back (tail_same f.key a [] (b ∷ back) e))
  below wait (f ∷ []) a b (x ∷ front) back e c = absurd (no_one front a (b ∷ back) (tail_same f.key x [] (front ++ a ∷ b ∷ back) e))
  below wait (f ∷ (g ∷ fs)) a b [] back e c =
      let rest = tail_same f.key a (g.key ∷ frame_keys fs) (b ∷ back) e in
      record {
        frame = f;
        key = head_same f.key a (g.key ∷ frame_keys fs) (b ∷ back) e;
        awaits = subst (λ (k : K). Awaits order m inputs.history inputs.revision (HasIn table) f.key f.stage k) (head_same g.key b (frame_keys fs) back rest) c.0;
        there = inl refl;
      }
  below wait (f ∷ (g ∷ fs)) a b (x ∷ front) back e c =
      further f (g ∷ fs) a b (below wait (g ∷ fs) a b front back (tail_same f.key x (g.key ∷ frame_keys fs) (front ++ a ∷ b ∷ back) e) c.1)

  -- the frame of the last key
  top : (wait : Option K) (fs : List (Frame K P)) (a b : K) (front : List K) → frame_keys fs ≡ front ++ a ∷ [] → wait ≡ Some b → Climbs order m inputs table wait fs → Found fs a b
  unfolding Climbs
  top wait [] a b front e w c = absurd (no_one front a [] e)
  top wait (f ∷ []) a b [] e w c = record { frame = f; key = head_same f.key a [] [] e; awaits = c b w; there = inl refl }
  top wait (f ∷ []) a b (x ∷ front) e w c = absurd (no_one front a [] (tail_same f.key x [] (front ++ a ∷ []) e))
  top wait (f ∷ (g ∷ fs)) a b [] e w c = absurd (no_more g.key (frame_keys fs) (tail_same f.key a (g.key ∷ frame_keys fs) [] e))
    where
      no_more : (k : K) (ks : List K) → k ∷ ks ≡ [] → ⊥
      no_more k ks d = cc
  top wait (f ∷ (g ∷ fs)) a b (x ∷ front) e w c =
      further f (g ∷ fs) a b (top wait (g ∷ fs) a b front (tail_same f.key x (g.key ∷ frame_keys fs) (front ++ a ∷ []) e) w c.1)

  -- `IsAmong frames f` is that `f` is a frame of some run
  abbrev pub IsAmong : (ℕ → List (Frame K P)) → Frame K P → Type 0
  IsAmong frames f = (r : ℕ) × In f (frames r)

  module _ (claims : List (ℕ × Hold K)) (frames : ℕ → List (Frame K P)) (run : ℕ) (key : K) where
    -- `AreOn ring` is that each run that holds a key of `ring` holds the keys of its frames, and these
    -- climb
    abbrev pub AreOn : List K → Type 0
    AreOn ring = (r : ℕ) (x : K) → In x ring → Holds claims r x
        → ((hold_of claims r).keys ≡ frame_keys (frames r)) × Climbs order m inputs table (awaited claims run key r) (frames r)

    -- a frame of the key `a` that waits for `b`
    record Step (a b : K) : Type 0 where
      frame : Frame K P
      frame_key : frame.key ≡ a
      waits : Awaits order m inputs.history inputs.revision (HasIn table) frame.key frame.stage b
      among : IsAmong frames frame

    step_of : (ring : List K) → AreOn ring → (a b : K) → In a ring → ComesNext claims run key a b → Step a b
    step_of ring on a b i n = elim n.1 [
      | inl p ↦ (
          let h : Holds claims n.0 a = (precedes_in (hold_of claims n.0).keys a b p).0 in
          let o = on n.0 a i h in
          let f = below (awaited claims run key n.0) (frames n.0) a b p.0 p.1 (sym o.0 ∙ p.2) o.1 in
          record { frame = f.frame; frame_key = f.key; waits = f.awaits; among = (n.0, f.there) })
      | inr l ↦ (
          let h : Holds claims n.0 a = last_in (hold_of claims n.0).keys a l.0 in
          let o = on n.0 a i h in
          let f = top (awaited claims run key n.0) (frames n.0) a b l.0.0 (sym o.0 ∙ l.0.1) l.1 o.1 in
          record { frame = f.frame; frame_key = f.key; waits = f.awaits; among = (n.0, f.there) })
    ]

    -- frames along a chain of keys, the last of which waits for `z`
    record Along (a : K) (xs : List K) (z : K) : Type 0 where
      first : Frame K P
      more : List (Frame K P)
      first_key : first.key ≡ a
      keys : frame_keys more ≡ xs
      round : RoundOf order m inputs.history inputs.revision table z (first ∷ more)
      among_all : Each (IsAmong frames) (first ∷ more)

    along : (ring : List K) → AreOn ring → (a : K) (xs : List K) (z : K) → ((y : K) → In y (a ∷ xs) → In y ring) → Chain (ComesNext claims run key) a xs z → Along a xs z
    unfolding Chain RoundOf
    along ring on a [] z inside c =
        let s = step_of ring on a z (inside a (inl refl)) c in
        record { first = s.frame; more = []; first_key = s.frame_key; keys = refl; round = s.waits; among_all = (s.among, tt) }
    along ring on a (x ∷ xs) z inside c =
        let s = step_of ring on a x (inside a (inl refl)) c.0 in
        let r = along ring on x xs z (λ y i. inside y (inr i)) c.1 in
        record {
          first = s.frame;
          more = r.first ∷ r.more;
          first_key = s.frame_key;
          keys = ap (λ (k : K). k ∷ frame_keys r.more) r.first_key ∙ ap (λ (ks : List K). x ∷ ks) r.keys;
          round = (subst (λ (k : K). Awaits order m inputs.history inputs.revision (HasIn table) s.frame.key s.frame.stage k) (sym r.first_key) s.waits, r.round);
          among_all = (s.among, r.among_all);
        }

    -- the frames of the ring's keys are a round
    pub ring_round : (ring : List K) → AreOn ring → IsRing order (ComesNext claims run key) ring
        → (fs : List (Frame K P)) × IsRound order m inputs.history inputs.revision table fs × (frame_keys fs ≡ ring) × Each (IsAmong frames) fs
    unfolding IsRing
    ring_round [] on r = absurd r
    ring_round (z ∷ zs) on r =
        let w = along (z ∷ zs) on z zs z (λ y i. i) r.0 in (
          w.first ∷ w.more,
          (
            subst (λ (k : K). RoundOf order m inputs.history inputs.revision table k (w.first ∷ w.more)) (sym w.first_key) w.round,
            subst (λ (k : K). Each (λ x. order k x ≡ Less) (frame_keys w.more)) (sym w.first_key) (subst (λ (ks : List K). Each (λ x. order z x ≡ Less) ks) (sym w.keys) r.1),
          ),
          ap (λ (k : K). k ∷ frame_keys w.more) w.first_key ∙ ap (λ (ks : List K). z ∷ ks) w.keys,
          w.among_all,
        )

-- ---- the runs of a ring

module _ {K : Type 0} (claims : List (ℕ × Hold K)) (run : ℕ) (key : K) (sound : AreSound claims) where
  -- each key on the way has a holder
  held_by : (a b : K) → ComesNext claims run key a b → (r : ℕ) × Holds claims r a
  held_by a b n = (
    n.0,
    elim n.1 [
      | inl p ↦ (precedes_in (hold_of claims n.0).keys a b p).0
      | inr l ↦ last_in (hold_of claims n.0).keys a l.0
    ],
  )

  -- a run holds each key of the ring
  pub ring_held : (order : K → K → Ordering) (ring : List K) → IsRing order (ComesNext claims run key) ring → (x : K) → In x ring → (r : ℕ) × Holds claims r x
  ring_held order ring is_ring x i = let n = ring_next order (ComesNext claims run key) ring is_ring x i in held_by x n.0 n.2

  module _ (started : ℕ → ℕ) (older : (r s : ℕ) (a : K) → Holds claims r a → WaitsFor claims r s → started s ≤ started r)
      (all : (r : ℕ) (x : K) → Holds claims r x → started r ≤ started run) where
    -- from a key to the next, the holder does not start later
    falls : (a b : K) → ComesNext claims run key a b → (r s : ℕ) → Holds claims r a → Holds claims s b → started s ≤ started r
    falls a b n r s ha hb = elim n.1 [
      | inl p ↦ (let i = precedes_in (hold_of claims n.0).keys a b p in
          let x : r ≡ n.0 = sound.one_holder r n.0 a ha i.0 in
          let y : s ≡ n.0 = sound.one_holder s n.0 b hb i.1 in
          same (started s) (started r) (ap started (y ∙ sym x)))
      | inr l ↦ (let x : r ≡ n.0 = sound.one_holder r n.0 a ha (last_in (hold_of claims n.0).keys a l.0) in
          by_test (n.0 == run) refl x (last_in (hold_of claims n.0).keys a l.0) l.1)
    ]
      where
        same : (c d : ℕ) → c ≡ d → c ≤ d
        same c d e = omega arith

        by_test : (t : Bool) → (n.0 == run) ≡ t → r ≡ n.0 → Holds claims n.0 a → awaited claims run key n.0 ≡ Some b → started s ≤ started r
        by_test true e x h w = subst (λ (q : ℕ). started s ≤ started q) (sym (x ∙ eqb-true n.0 run e)) (all s b hb)
        by_test false e x h w = subst (λ (q : ℕ). started s ≤ started q) (sym x)
            (older n.0 s a h (b, sym (ap (λ (t : Bool). if t then Some key else (hold_of claims n.0).wait) e) ∙ w, hb))

    -- along a chain the holders do not start later
    falls_along : (a : K) (xs : List K) (z : K) → Chain (ComesNext claims run key) a xs z → (y : K) → In y (a ∷ xs) → (r s : ℕ) → Holds claims r a → Holds claims s y → started s ≤ started r
    unfolding Chain
    falls_along a xs z c y (inl e) r s hr hs = reflexive (started s) (started r) (ap started (sound.one_holder s r y hs (subst (λ (k : K). Holds claims r k) (sym e) hr)))
      where
        reflexive : (c d : ℕ) → c ≡ d → c ≤ d
        reflexive c d e = omega arith
    falls_along a [] z c y (inr i) r s hr hs = absurd i
    falls_along a (x ∷ xs) z c y (inr i) r s hr hs =
        let h = owner x xs z c.1 in
        let first : started h.0 ≤ started r = falls a x c.0 r h.0 hr h.1 in
        let rest : started s ≤ started h.0 = falls_along x xs z c.1 y i h.0 s h.1 hs in
        omega arith
      where
        owner : (b : K) (bs : List K) (w : K) → Chain (ComesNext claims run key) b bs w → (q : ℕ) × Holds claims q b
        owner b [] w d = held_by b w d
        owner b (b2 ∷ bs) w d = held_by b b2 d.0

    falls_to : (a : K) (xs : List K) (z : K) → Chain (ComesNext claims run key) a xs z → (y : K) → In y (a ∷ xs) → (s t : ℕ) → Holds claims s y → Holds claims t z → started t ≤ started s
    unfolding Chain
    falls_to a [] z c y (inl e) s t hs ht = falls a z c s t (subst (λ (k : K). Holds claims s k) e hs) ht
    falls_to a [] z c y (inr i) s t hs ht = absurd i
    falls_to a (x ∷ xs) z c y (inl e) s t hs ht =
        let h = owner x xs z c.1 in
        let first : started h.0 ≤ started s = falls a x c.0 s h.0 (subst (λ (k : K). Holds claims s k) e hs) h.1 in
        let rest : started t ≤ started h.0 = falls_to x xs z c.1 x (inl refl) h.0 t h.1 ht in
        omega arith
      where
        owner : (b : K) (bs : List K) (w : K) → Chain (ComesNext claims run key) b bs w → (q : ℕ) × Holds claims q b
        owner b [] w d = held_by b w d
        owner b (b2 ∷ bs) w d = held_by b b2 d.0
    falls_to a (x ∷ xs) z c y (inr i) s t hs ht = falls_to x xs z c.1 y i s t hs ht

    -- each run of the ring started when `run` did
    pub ring_started : (order : K → K → Ordering) (ring : List K) (last : K) → IsRing order (ComesNext claims run key) ring → IsLast (hold_of claims run).keys last → In last ring
        → (r : ℕ) (x : K) → In x ring → Holds claims r x → started r ≡ started run
    unfolding IsRing Chain
    ring_started order [] last ring own i r x j h = absurd j
    ring_started order (z ∷ zs) last ring own i r x j h =
        let hl = last_in (hold_of claims run).keys last own in
        let hz = head z zs ring.0 in
        let up : started hz.0 ≤ started r = falls_to z zs z ring.0 x j r hz.0 h hz.1 in
        let down : started run ≤ started hz.0 = falls_along z zs z ring.0 last i hz.0 run hz.1 hl in
        let most : started r ≤ started run = all r x h in
        omega arith
      where
        head : (b : K) (bs : List K) → Chain (ComesNext claims run key) b bs z → (q : ℕ) × Holds claims q b
        head b [] d = held_by b z d
        head b (b2 ∷ bs) d = held_by b b2 d.0

  module _ (order : K → K → Ordering) (ring : List K) (is_ring : IsRing order (ComesNext claims run key) ring) (r : ℕ) (other : r ≢ run) where
    -- the key after `x` is on the ring too, or `x` is the last that its run claimed, and the run waits
    next_of : (x : K) → In x ring → Holds claims r x → ((b : K) × In b ring × Precedes (hold_of claims r).keys x b) ⊎ ((b : K) × ((hold_of claims r).wait ≡ Some b))
    next_of x i h = by_next (ring_next order (ComesNext claims run key) ring is_ring x i)
      where
        by_next : (b : K) × In b ring × ComesNext claims run key x b → ((b : K) × In b ring × Precedes (hold_of claims r).keys x b) ⊎ ((b : K) × ((hold_of claims r).wait ≡ Some b))
        by_next n = elim n.2.1 [
          | inl p ↦ (
              let e : n.2.0 ≡ r = sound.one_holder n.2.0 r x (precedes_in (hold_of claims n.2.0).keys x n.0 p).0 h in
              inl (n.0, n.1, subst (λ (q : ℕ). Precedes (hold_of claims q).keys x n.0) e p))
          | inr l ↦ (
              let e : n.2.0 ≡ r = sound.one_holder n.2.0 r x (last_in (hold_of claims n.2.0).keys x l.0) h in
              inr (n.0, sym (if_other r run (Some key) (hold_of claims r).wait other) ∙ subst (λ (q : ℕ). awaited claims run key q ≡ Some n.0) e l.1))
        ]

    holds_middle : (front : List K) (x : K) (back : List K) → (hold_of claims r).keys ≡ front ++ x ∷ back → Holds claims r x
    holds_middle front x back e = subst (λ (l : List K). In x l) (sym e) (in_append_right x front (x ∷ back) (inl refl))

    back_is : (front : List K) (x : K) (back : List K) (b : K) → (hold_of claims r).keys ≡ front ++ x ∷ back → (p : Precedes (hold_of claims r).keys x b) → back ≡ b ∷ p.1
    back_is front x back b e p = one_back front p.0 x back (b ∷ p.1) (subst (λ (l : List K). Differ l) e (sound.once r)) (sym e ∙ p.2)

    none_more : (b : K) (cs : List K) → [] ≡ b ∷ cs → ⊥
    none_more b cs e = cc

    -- from a key of the ring up to the key that its run claimed last, all are on the ring
    waits_from : (front : List K) (x : K) (back : List K) → (hold_of claims r).keys ≡ front ++ x ∷ back → In x ring → (b : K) × ((hold_of claims r).wait ≡ Some b)
    waits_from front x [] e i = elim (next_of x i (holds_middle front x [] e)) [ inl n ↦ absurd (none_more n.0 n.2.1 (back_is front x [] n.0 e n.2)) | inr w ↦ w ]
    waits_from front x (c ∷ back) e i = elim (next_of x i (holds_middle front x (c ∷ back) e)) [
      | inl n ↦ (
          let is : n.0 ≡ c = sym (head_same c n.0 back n.2.1 (back_is front x (c ∷ back) n.0 e n.2)) in
          waits_from (front ++ x ∷ []) c back (e ∙ sym (append_assoc front (x ∷ []) (c ∷ back))) (subst (λ (k : K). In k ring) is n.1))
      | inr w ↦ w
    ]

    pub ring_waits : (x : K) → In x ring → Holds claims r x → (b : K) × ((hold_of claims r).wait ≡ Some b)
    ring_waits x i h = let s = split_at (hold_of claims r).keys x h in waits_from s.front x s.back s.whole i
