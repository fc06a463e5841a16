-- A memo that is green may be marked as verified now: by durability, with its durability as it is,
-- and by its reads.
use Rattle.std.proofs.Common.{◌≡◌, ℕ, ◌+◌, ◌⊎◌, ◌<◌, ◌≤◌, List, [], ◌∷◌, ◌++◌, length, refl, sym, ◌∙◌, ap, subst, inl, inr, arith}
use Rattle.std.specs.declared.cmp.Ordering.{Ordering}
use Rattle.pq_inputs.specs.declared.durability.Durability.{Durability}
use Rattle.pq_inputs.specs.declared.durability.Durability.TheVariants.{Low, Medium, High}
use Rattle.pq_inputs.specs.Sources.{File, Sources}
use Rattle.pq_inputs.specs.Changes.{level}
use Rattle.pq_rules.specs.declared.turn.Answer.{Answer}
use Rattle.pq_rules.specs.declared.turn.Answer.TheVariants.{Cycle}
use Rattle.pq_rules.specs.Turns.{Instance, Machine}
use Rattle.pq_rules.specs.Relations.{In, Chain, Leads, Round, IsRing}
use Rattle.pq_rules.specs.Value.{Means, Waits}
use Rattle.pq_rules.proofs.Rings.{Strict, comes_back}
use Rattle.pq_rules.proofs.Uniqueness.{means_one}
use Rattle.pq_rules.proofs.Characterisation.{cycle_round, means_ring}
use Rattle.pq_memo.specs.Sound.{Memo, sources_at, at, file_at, AsksAt, IsBelow}
use Rattle.pq_memo.specs.Kept.{Quiet, KeptMemo, Kept}
use Rattle.pq_memo.specs.Look.{Lasts}
use Rattle.pq_memo.specs.aux.Written.{NewMemo}
use Rattle.pq_memo.proofs.Runs.{reads_mean, reads_asked}
use Rattle.pq_memo.proofs.Still as still
use Rattle.pq_memo.proofs.Still.{leads_none, leads_more, leads_before, leads_join, along_leads}
use Rattle.pq_memo.proofs.Quieten.{quiet_same}
use Rattle.pq_memo.proofs.Written.{cases_le}

-- the memo, verified now
abbrev pub marked : {K V : Type 0} → Memo K V → ℕ → Memo K V
marked memo now = record memo { verified = now }

pub lasts_quiet : {K V : Type 0} (history : List Sources) (now : ℕ) (memo : Memo K V) → Lasts history memo → Quiet history memo.durability memo.verified now
lasts_quiet history now memo lasts before from under change =
    let le : lasts.0 ≤ memo.verified = lasts.2 in lasts.1.latest before (omega arith) change

-- the high durability is the highest
le_high : (d : Durability) → level d ≤ 2
le_high Low = omega arith
le_high Medium = omega arith
le_high High = omega arith

pub at_most_high : (d e : Durability) → e ≡ High → level d ≤ level e
at_most_high d e is = let top : level e ≡ 2 = ap level is in let le = le_high d in omega arith

-- from each key of a ring a chain leads to each other
head_leads : {K : Type 0} (N : K → K → Type 0) (k : K) (xs : List K) (z y : K) → Chain N k xs z → In y (k ∷ xs) → Leads N k y
unfolding Chain
head_leads {K} N k xs z y c (inl e) = subst (λ (x : K). Leads N k x) (sym e) (leads_none N k)
head_leads N k [] z y c (inr i) = absurd i
head_leads N k (x ∷ xs) z y c (inr i) = leads_before N k x y c.0 (head_leads N x xs z y c.1 i)

chain_leads : {K : Type 0} (N : K → K → Type 0) (k : K) (xs : List K) (z : K) → Chain N k xs z → Leads N k z
unfolding Leads
chain_leads N k xs z c = inr (xs, c)

pub ring_leads : {K : Type 0} (order : K → K → Ordering) (N : K → K → Type 0) (ring : List K) → IsRing order N ring
    → (x y : K) → In x ring → In y ring → Leads N x y
unfolding IsRing
ring_leads order N [] r x y i j = absurd i
ring_leads order N (z ∷ zs) r x y i j =
    let back = comes_back N z zs z r.0 x i in
    leads_join N x z y (chain_leads N x back.0 z back.1) (head_leads N z zs z y r.0 j)

module _ {K P V : Type 0} (s : Instance K P V) where
  -- keys of one level each of which waits for another
  wait_asks : (l : ℕ) → 0 < l → (x y : K) → s.level x ≡ l → Waits s x y → AsksAt s x y × (s.level y ≡ l)
  unfolding Waits
  wait_asks l up x y e w = let h : s.level x ≡ l = e in
      (record { ruled = omega arith; part = w.1.0; comes = w.1.1 }, w.0 ∙ e)

  waits_lead : (l : ℕ) → 0 < l → (k : K) (xs : List K) (z : K) → s.level k ≡ l → Chain (Waits s) k xs z → Chain (AsksAt s) k xs z × (s.level z ≡ l)
  unfolding Chain
  waits_lead l up k [] z e c = wait_asks l up k z e c
  waits_lead l up k (x ∷ xs) z e c =
      let a = wait_asks l up k x e c.0 in let b = waits_lead l up x xs z a.1 c.1 in ((a.0, b.0), b.1)

  waits_levels : (l : ℕ) → 0 < l → (k : K) (xs : List K) (z : K) → s.level k ≡ l → Chain (Waits s) k xs z → (x : K) → In x (k ∷ xs) → s.level x ≡ l
  unfolding Chain
  waits_levels l up k xs z e c x (inl i) = ap s.level i ∙ e
  waits_levels l up k [] z e c x (inr i) = absurd i
  waits_levels l up k (y ∷ ys) z e c x (inr i) = waits_levels l up y ys z (wait_asks l up k y e c.0).1 c.1 x i

  -- what is said of a key on the ring that is its answer
  pub record OnRing (ring : List K) : Type 0 where
    pub round : IsRing s.order (AsksAt s) ring
    pub high : (x : K) → In x ring → 0 < s.level x
    pub means : (x : K) → In x ring → Means s x (Cycle ring)
    pub waits : (x : K) → In x ring → (y : K) × In y ring × Waits s x y

  next_in : (k : K) (xs : List K) (z x : K) → Chain (Waits s) k xs z → In x (k ∷ xs) → (y : K) × Waits s x y × In y (xs ++ z ∷ [])
  unfolding Chain
  next_in k [] z x c (inl p) = (z, subst (λ (w : K). Waits s w z) (sym p) c, inl refl)
  next_in k [] z x c (inr i) = absurd i
  next_in k (y ∷ ys) z x c (inl p) = (y, subst (λ (w : K). Waits s w y) (sym p) c.0, inl refl)
  next_in k (y ∷ ys) z x c (inr i) = let g = next_in y ys z x c.1 i in (g.0, g.1, inr g.2)

  in_turned : (y z : K) (xs : List K) → In y (xs ++ z ∷ []) → In y (z ∷ xs)
  in_turned y z [] i = i
  in_turned y z (x ∷ xs) (inl p) = inr (inl p)
  in_turned y z (x ∷ xs) (inr i) = elim (in_turned y z xs i) [ inl p ↦ inl p | inr j ↦ inr (inr j) ]

  pub on_ring : Strict s.order → (k : K) (ring : List K) → 0 < s.level k → Means s k (Cycle ring) → In k ring → OnRing ring
  unfolding IsRing Round
  on_ring strict k ring up means i = by ring i (cycle_round s k ring up means)
    where
      by : (r : List K) → In k r → IsRing s.order (Waits s) r → OnRing r
      by [] i c = absurd i
      by (z ∷ zs) i c =
          let back = comes_back (Waits s) z zs z c.0 k i in
          let e : s.level z ≡ s.level k = (waits_lead (s.level k) up k back.0 z refl back.1).1 in
          let levels = waits_levels (s.level k) up z zs z e c.0 in
          let hz : 0 < s.level z = omega arith in
          record {
            round = ((waits_lead (s.level k) up z zs z e c.0).0, c.1);
            high = λ x j. (let l : s.level x ≡ s.level k = levels x j in omega arith);
            means = λ x j. means_ring s strict z zs hz c.0 c.1 x j;
            waits = λ x j. (let n = next_in z zs z x c.0 j in (n.0, in_turned n.0 z zs n.2, n.1));
          }

module _ {K P V : Type 0} (order : K → K → Ordering) (strict : Strict order) (m : Machine K P V) (history : List Sources) (now : ℕ)
    (counted : length history ≡ now + 1) (Has : K → Memo K V → Type 0) (kept : Kept order m history now Has)
    (k : K) (memo : Memo K V) (has : Has k memo) (quiet : Quiet history memo.durability memo.verified now) where
  abbrev then_ : ℕ → Instance K P V
  then_ = at order m history

  o : KeptMemo order m history now Has k memo
  o = kept.memos k memo has

  was_right : Means (then_ memo.verified) k memo.answer
  was_right = reads_mean (then_ memo.verified) strict k memo.answer memo.reads o.ruled o.reads

  -- the inputs below it are, up to now, as they were
  same : (w : ℕ) → memo.verified ≤ w → w ≤ now → (x : K) → IsBelow (then_ memo.verified) k x
      → file_at (sources_at history memo.verified) (m.file x) ≡ file_at (sources_at history w) (m.file x)
  same w from upto x b =
      quiet_same history memo.durability memo.verified w (m.file x) from (omega arith)
      (λ before f u. quiet before f (omega arith)) (o.least.lasting x b)

  -- its answer is right at each revision up to now
  pub right_at : (w : ℕ) → memo.verified ≤ w → w ≤ now → Means (then_ w) k memo.answer
  right_at w from upto =
      still.carried order strict m (sources_at history memo.verified) (sources_at history w) k memo.answer was_right (same w from upto)
      k memo.answer (leads_none (AsksAt (then_ memo.verified)) k) was_right

  -- what a key below has for an answer at some revision since, it has now
  under_right : (q : K) → Leads (AsksAt (then_ memo.verified)) k q → (b : Answer K V) (w : ℕ) → memo.verified ≤ w → w ≤ now
      → Means (then_ w) q b → Means (then_ now) q b
  under_right q u b w from upto h =
      let bw = still.both order strict m (sources_at history memo.verified) (sources_at history w) k memo.answer was_right (same w from upto) q u in
      let one : bw.0 ≡ b = means_one (then_ w) strict q bw.0 b bw.2 h in
      let v : memo.verified ≤ now = o.in_order.1 in
      subst (λ (x : Answer K V). Means (then_ now) q x) one
      (still.carried order strict m (sources_at history memo.verified) (sources_at history now) k memo.answer was_right (same now v (omega arith)) q bw.0 u bw.1)

  -- the memo of a read is right now
  read_right : (q : K) (read : Memo K V) → In q memo.reads → Has q read → Means (then_ now) q read.answer
  read_right q read i h =
      let r = kept.memos q read h in
      let u = leads_more (AsksAt (then_ memo.verified)) k k q (leads_none (AsksAt (then_ memo.verified)) k)
      (reads_asked (then_ memo.verified) k memo.answer memo.reads q o.ruled o.reads i) in
      elim (cases_le memo.verified read.verified) [
        | inl le ↦ under_right q u read.answer read.verified le r.in_order.1
            (reads_mean (then_ read.verified) strict q read.answer read.reads r.ruled r.reads)
        | inr lt ↦ (let a : read.changed ≤ read.verified = r.in_order.0 in
            let v : memo.verified ≤ now = o.in_order.1 in
            under_right q u read.answer memo.verified (omega arith) v (o.unchanged q read i h (omega arith)))
      ]

  -- a key of its ring
  ring_key : (ring : List K) → memo.answer ≡ Cycle ring → In k ring → (x : K) → In x ring → (other : Memo K V) → Has x other
      → memo.verified ≤ other.verified
      → (other.answer ≡ memo.answer) × (level memo.durability ≤ level other.durability)
  ring_key ring e i x j other h le =
      let r = kept.memos x other h in
      let v : other.verified ≤ now = r.in_order.1 in
      let cycle : Means (then_ memo.verified) k (Cycle ring) = subst (λ (a : Answer K V). Means (then_ memo.verified) k a) e was_right in
      let on = on_ring (then_ memo.verified) strict k ring o.ruled cycle i in
      let u = ring_leads order (AsksAt (then_ memo.verified)) ring on.round k x i j in
      let b : Means (then_ other.verified) x (Cycle ring) =
      still.carried order strict m (sources_at history memo.verified) (sources_at history other.verified) k memo.answer was_right
      (same other.verified le v) x (Cycle ring) u (on.means x j) in
      let mine = reads_mean (then_ other.verified) strict x other.answer other.reads r.ruled r.reads in
      let one : other.answer ≡ Cycle ring = means_one (then_ other.verified) strict x other.answer (Cycle ring) mine b in (
        one ∙ sym e,
        elim r.least.attained [
          | inl high ↦ at_most_high memo.durability other.durability high
          | inr y ↦
              (let back = still.below_back order strict m (sources_at history memo.verified) (sources_at history other.verified) k memo.answer was_right
              (same other.verified le v) x y.0 u y.1 in
              let mine : IsBelow (then_ memo.verified) k y.0 = record {
                input = back.input;
                leads = leads_join (AsksAt (then_ memo.verified)) k x y.0 u back.leads;
              } in
              let file : (file_at (sources_at history memo.verified) (m.file y.0)).durability ≡ other.durability =
              ap (λ (f : File). f.durability) (same other.verified le v y.0 mine) ∙ y.2 in
              subst (λ (d : Durability). level memo.durability ≤ level d) file (o.least.lasting y.0 mine))
        ],
      )

  -- the memo may be marked
  pub marked_by_durability : (After : K → Memo K V → Type 0)
      → ((q : K) (n : Memo K V) → After q n → ((q ≡ k) × (n ≡ marked memo now)) ⊎ Has q n)
      → After k (marked memo now)
      → ((q : K) (n : Memo K V) → Has q n → (q' : Memo K V) × After q q' × ((q' ≡ n) ⊎ (q' ≡ marked memo now)))
      → NewMemo order m history now Has After k (marked memo now)
  marked_by_durability After from here kept_there =
      let v : memo.verified ≤ now = o.in_order.1 in
      let none = leads_none (AsksAt (then_ memo.verified)) k in
      record {
        ruled = o.ruled;
        verified = refl;
        dated = inl (memo, has, refl, refl);
        reads = still.reads_same order strict m (sources_at history memo.verified) (sources_at history now) k memo.answer was_right
            (same now v (omega arith)) k memo.answer memo.reads o.ruled none o.reads;
        least = still.least_still order strict m (sources_at history memo.verified) (sources_at history now) k memo.answer was_right
            (same now v (omega arith)) k memo.durability none o.least;
        covered = λ q i up. (let c = o.covered q i up in let t = kept_there q c.0 c.1 in (t.0, t.1));
        right = λ q read i a. elim (from q read a) [
          | inl n ↦ subst (λ (x : K). Means (then_ now) x read.answer) (sym n.0)
              (subst (λ (x : Memo K V). Means (then_ now) k x.answer) (sym n.1) (right_at now v (omega arith)))
          | inr h ↦ read_right q read i h
        ];
        together = λ ring e i x j. (let t = o.together ring e i x j in let there = kept_there x t.0 t.1 in (
          there.0,
          there.1,
          elim there.2 [
            | inr n ↦ inl (let w : there.0.verified ≡ now = ap (λ (y : Memo K V). y.verified) n in omega arith)
            | inl n ↦ subst (λ (y : Memo K V). (now ≤ y.verified) ⊎ ((y.answer ≡ memo.answer) × (level memo.durability ≤ level y.durability) × Quiet history memo.durability y.verified now)) (sym n)
                (inr (elim t.2 [
                  | inl le ↦ (let s = ring_key ring e i x j t.0 t.1 le in
                      (s.0, s.1, λ before f u. quiet before (let g : t.0.verified ≤ before = f in omega arith) u))
                  | inr s ↦ (
                    s.0,
                    s.1,
                    λ before f u. elim (cases_le memo.verified before) [
                      | inl after ↦ quiet before after u
                      | inr early ↦ s.2 before f early
                    ],
                  )
                ]))
          ],
        ));
      }
