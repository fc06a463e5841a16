-- The least durability below a key is the least of its reads'; for the keys of a ring, of all reads
-- of all its keys but those that lead round.
use Rattle.std.proofs.Common.{◌≡◌, ℕ, ◌⊎◌, ◌<◌, ◌≤◌, List, [], ◌∷◌, ◌++◌, refl, sym, ◌∙◌, ap, subst, inl, inr, arith}
use Rattle.pq_inputs.specs.declared.durability.Durability.{Durability}
use Rattle.pq_inputs.specs.declared.durability.Durability.TheVariants.{High}
use Rattle.pq_inputs.specs.Sources.{Sources}
use Rattle.pq_inputs.specs.Changes.{level}
use Rattle.pq_rules.specs.declared.turn.Turn.TheVariants.{Ask}
use Rattle.pq_rules.specs.declared.turn.Answer.{Answer}
use Rattle.pq_rules.specs.declared.turn.Answer.TheVariants.{Value, Cycle}
use Rattle.pq_rules.specs.Turns.{Instance, Machine}
use Rattle.pq_rules.specs.Relations.{Each, In, Leads}
use Rattle.pq_rules.specs.Value.{Means, Trace, RightRead, ComesBy, Waits}
use Rattle.pq_rules.proofs.Rings.{Strict}
use Rattle.pq_rules.proofs.Uniqueness.{means_one}
use Rattle.pq_rules.specs.aux.Lists.{in_append}
use Rattle.pq_memo.specs.Sound.{file_at, asked_keys, AsksAt, HasReads}
use Rattle.pq_memo.specs.Kept.{IsLeast}
use Rattle.pq_memo.specs.aux.Durabilities.{IsFront}
use Rattle.pq_memo.proofs.Runs.{reads_asked, asks_read, run_asks, has_reads}
use Rattle.pq_memo.proofs.Still.{leads_none, leads_more, leads_before, leads_first, leads_join, along_leads}
use Rattle.pq_memo.proofs.Marks.{OnRing, ring_leads}

module _ {K P V : Type 0} (s : Instance K P V) (strict : Strict s.order) (m : Machine K P V) (files : Sources) where
  -- an input leads nowhere
  pub input_leads : (q x : K) → s.level q ≡ 0 → Leads (AsksAt s) q x → q ≡ x
  input_leads q x low l = elim (leads_first (AsksAt s) q x l) [
    | inl e ↦ e
    | inr n ↦ (let up : 0 < s.level q = n.1.ruled in let e : s.level q ≡ 0 = low in absurd (omega arith))
  ]

  -- an input's least durability is its own
  pub least_of_input : (q : K) → s.level q ≡ 0 → IsLeast s m files q (file_at files (m.file q)).durability
  least_of_input q low = record {
    lasting = λ x b. subst (λ (y : K). level (file_at files (m.file q)).durability ≤ level (file_at files (m.file y)).durability)
        (input_leads q x low b.leads) (omega arith);
    attained = inr (q, record { input = low; leads = leads_none (AsksAt s) q }, refl);
  }

  -- a durability that is the least of those of these keys, High where there is none
  pub record IsLeastOf (Among : K → Type 0) (d : Durability) : Type 0 where
    pub lower : (q : K) → Among q → (e : Durability) × IsLeast s m files q e × (level d ≤ level e)
    pub attained : (d ≡ High) ⊎ ((q : K) × Among q × IsLeast s m files q d)

  pub least_of_reads : (k : K) (a : Answer K V) (reads : List K) (d : Durability) → 0 < s.level k → HasReads s k a reads
      → IsLeastOf (λ q. In q reads) d → IsLeast s m files k d
  least_of_reads k a reads d up r least = record {
    lasting = λ x b. elim (leads_first (AsksAt s) k x b.leads) [
      | inl e ↦ (let low : s.level k ≡ 0 = ap s.level e ∙ b.input in absurd (omega arith))
      | inr n ↦
          (let of_read = least.lower n.0 (asks_read s strict k a reads n.0 r n.1) in
          let le : level d ≤ level of_read.0 = of_read.2 in
          let lasting : level of_read.0 ≤ level (file_at files (m.file x)).durability = of_read.1.lasting x (record { input = b.input; leads = n.2 }) in
          omega arith)
    ];
    attained = elim least.attained [
      | inl high ↦ inl high
      | inr q ↦ elim q.2.attained [
        | inl high ↦ inl high
        | inr x ↦ inr (x.0, record { input = x.1.input; leads = leads_before (AsksAt s) k q.0 x.0 (reads_asked s k a reads q.0 up r q.1) x.1.leads }, x.2)
      ]
    ];
  }

  -- a read of a ring's key that does not lead round
  abbrev pub Outside : List K → K → Type 0
  Outside ring q = (x : K) × (es : Trace K V) × (y : K) × (p : P) × In x ring × In y ring × ComesBy s x es (Ask y p) × In q (asked_keys es)

  -- a key of the run's level that was read has no cycle
  told_no_cycle : (l : ℕ) (es : Trace K V) (q : K) (ring : List K) → Each (RightRead s l) es → In q (asked_keys es) → s.level q ≡ l → Means s q (Cycle ring) → ⊥
  told_no_cycle l [] q ring told i at means = i
  told_no_cycle l (e ∷ es) q ring told (inl same) at means =
      let level_e : s.level e.0 ≡ l = subst (λ (x : K). s.level x ≡ l) same at in
      let v = told.0.value level_e in
      let mine : Means s q e.1 = subst (λ (x : K). Means s x e.1) (sym same) told.0.means in
      let one : Cycle ring ≡ e.1 = means_one s strict q (Cycle ring) e.1 means mine in
      let value : e.1 ≡ Value v.0 = v.1 in
      cc
  told_no_cycle l (e ∷ es) q ring told (inr i) at means = told_no_cycle l es q ring told.1 i at means

  wait_level : (x y : K) → Waits s x y → s.level y ≡ s.level x
  unfolding Waits
  wait_level x y w = w.0

  wait_asks : (x y : K) → 0 < s.level x → Waits s x y → AsksAt s x y
  unfolding Waits
  wait_asks x y up w = record { ruled = up; part = w.1.0; comes = w.1.1 }

  module _ (ring : List K) (on : OnRing s ring) where
    -- a ring's key reads, and last the next on the ring
    pub record RingReads (x : K) (reads : List K) : Type 0 where
      pub run : Trace K V
      pub next : K
      pub part : P
      pub comes : ComesBy s x run (Ask next part)
      pub whole : reads ≡ asked_keys run ++ next ∷ []
      pub round : In next ring

    pub ring_reads : (x : K) (reads : List K) → In x ring → HasReads s x (Cycle ring) reads → RingReads x reads
    ring_reads x reads i r =
        let n = on.waits x i in
        let there = asks_read s strict x (Cycle ring) reads n.0 r (wait_asks x n.0 (on.high x i) n.2) in
        elim (in_append n.0 (asked_keys r.0) (r.1 ∷ []) (subst (λ (ks : List K). In n.0 ks) r.4 there)) [
          | inl j ↦ absurd (told_no_cycle (s.level x) r.0 n.0 ring r.3.told j (wait_level x n.0 n.2) (on.means n.0 n.1))
          | inr (inl e) ↦ record { run = r.0; next = r.1; part = r.2; comes = r.3; whole = r.4; round = subst (λ (y : K). In y ring) e n.1 }
          | inr (inr j) ↦ absurd j
        ]

    reads_of : (x : K) → In x ring → (reads : List K) × HasReads s x (Cycle ring) reads
    reads_of x i = has_reads s x (Cycle ring) (on.high x i) (on.means x i)

    -- a key on the ring, or one that a read outside leads to
    abbrev Within : K → Type 0
    Within z = In z ring ⊎ ((q : K) × Outside ring q × Leads (AsksAt s) q z)

    steps_within : (z w : K) → Within z → AsksAt s z w → Within w
    steps_within z w (inl i) asks =
        let r = reads_of z i in
        let n = ring_reads z r.0 i r.1 in
        elim (in_append w (asked_keys n.run) (n.next ∷ []) (subst (λ (ks : List K). In w ks) n.whole (asks_read s strict z (Cycle ring) r.0 w r.1 asks))) [
          | inl j ↦ inr (w, (z, n.run, n.next, n.part, i, n.round, n.comes, j), leads_none (AsksAt s) w)
          | inr (inl e) ↦ inl (subst (λ (y : K). In y ring) (sym e) n.round)
          | inr (inr j) ↦ absurd j
        ]
    steps_within z w (inr e) asks = inr (e.0, e.1, leads_more (AsksAt s) e.0 z w e.2 asks)

    -- the ring's least durability is that of what its keys read outside
    pub least_of_ring : (d : Durability) → IsLeastOf (Outside ring) d → (k : K) → In k ring → IsLeast s m files k d
    least_of_ring d least k i = record {
      lasting = λ x b. elim (along_leads (AsksAt s) Within steps_within k x (inl i) b.leads) [
        | inl j ↦ (let up : 0 < s.level x = on.high x j in let low : s.level x ≡ 0 = b.input in absurd (omega arith))
        | inr e ↦
            (let out = least.lower e.0 e.1 in
            let le : level d ≤ level out.0 = out.2 in
            let lasting : level out.0 ≤ level (file_at files (m.file x)).durability = out.1.lasting x (record { input = b.input; leads = e.2 }) in
            omega arith)
      ];
      attained = elim least.attained [
        | inl high ↦ inl high
        | inr q ↦ elim q.2.attained [
          | inl high ↦ inl high
          | inr x ↦
              (let out = q.1 in
              let round = ring_leads s.order (AsksAt s) ring on.round k out.0 i out.4 in
              let asks = run_asks s out.0 out.1 (Ask out.2 out.3) q.0 (on.high out.0 out.4) out.6 out.7 in
              inr (
                x.0,
                record {
                  input = x.1.input;
                  leads = leads_join (AsksAt s) k out.0 x.0 round (leads_before (AsksAt s) out.0 q.0 x.0 asks x.1.leads);
                },
                x.2,
              ))
        ]
      ];
    }

    pub last_one : (xs ys : List K) (x y : K) → xs ++ x ∷ [] ≡ ys ++ y ∷ [] → (xs ≡ ys) × (x ≡ y)
    last_one [] [] x y e = (refl, (cc))
    last_one [] (b ∷ []) x y e = cc
    last_one [] (b ∷ (c ∷ ys)) x y e = cc
    last_one (a ∷ []) [] x y e = cc
    last_one (a ∷ (c ∷ xs)) [] x y e = cc
    last_one (a ∷ xs) (b ∷ ys) x y e =
        let tails : xs ++ x ∷ [] ≡ ys ++ y ∷ [] = cc in
        let r = last_one xs ys x y tails in
        let same : xs ≡ ys = r.0 in
        let head : a ≡ b = cc in ((cc), r.1)

    -- of entries, one for each key of the ring, that have its reads
    pub least_of_entries : (Entry : K → List K → Type 0) (d : Durability)
        → ((x : K) (reads : List K) → Entry x reads → In x ring × HasReads s x (Cycle ring) reads)
        → ((x : K) → In x ring → (reads : List K) × Entry x reads)
        → IsLeastOf (λ q. (x : K) × (reads : List K) × Entry x reads × IsFront reads q) d
        → IsLeastOf (Outside ring) d
    least_of_entries Entry d right all least = record {
      lower = λ q out.
          let entry = all out.0 out.4 in
          let r = right out.0 entry.0 entry.1 in
          let n = ring_reads out.0 entry.0 r.0 r.1 in
          let asks = run_asks s out.0 out.1 (Ask out.2 out.3) q (on.high out.0 out.4) out.6 out.7 in
          elim (in_append q (asked_keys n.run) (n.next ∷ []) (subst (λ (ks : List K). In q ks) n.whole (asks_read s strict out.0 (Cycle ring) entry.0 q r.1 asks))) [
            | inl j ↦ least.lower q (out.0, entry.0, entry.1, (asked_keys n.run, n.next, n.whole, j))
            | inr (inl e) ↦ absurd (told_no_cycle (s.level out.0) out.1 q ring out.6.told out.7
                (subst (λ (y : K). s.level y ≡ s.level out.0) (sym e) (next_level out.0 entry.0 r.0 r.1 n))
                (subst (λ (y : K). Means s y (Cycle ring)) (sym e) (on.means n.next n.round)))
            | inr (inr j) ↦ absurd j
          ];
      attained = elim least.attained [
        | inl high ↦ inl high
        | inr q ↦
            (let f = q.1.3 in
            let r = right q.1.0 q.1.1 q.1.2 in
            let n = ring_reads q.1.0 q.1.1 r.0 r.1 in
            let fronts : f.0 ≡ asked_keys n.run = (last_one f.0 (asked_keys n.run) f.1 n.next (sym f.2 ∙ n.whole)).0 in
            inr (q.0, (q.1.0, n.run, n.next, n.part, r.0, n.round, n.comes, subst (λ (ks : List K). In q.0 ks) fronts f.3), q.2))
      ];
    }
      where
        next_level : (x : K) (reads : List K) → In x ring → HasReads s x (Cycle ring) reads → (n : RingReads x reads) → s.level n.next ≡ s.level x
        next_level x reads i r n =
            let same = last_one (asked_keys r.0) (asked_keys n.run) r.1 n.next (sym r.4 ∙ n.whole) in
            ap s.level (sym same.1) ∙ r.5
