-- Runs of a rule: at one setting, what it asks is what it reads; at two, it is the same where each
-- answer stays right.
use Rattle.std.proofs.Common.{◌≡◌, ℕ, ◌<◌, List, [], ◌∷◌, ◌++◌, refl, sym, ◌∙◌, subst, inl, inr}
use Rattle.std.specs.declared.cmp.Ordering.{Ordering}
use Rattle.pq_inputs.specs.Sources.{Sources}
use Rattle.pq_rules.specs.declared.turn.Turn.{Turn}
use Rattle.pq_rules.specs.declared.turn.Turn.TheVariants.{Ask, Done}
use Rattle.pq_rules.specs.declared.turn.Answer.{Answer}
use Rattle.pq_rules.specs.declared.turn.Answer.TheVariants.{Value, Cycle}
use Rattle.pq_rules.specs.Turns.{Instance, Machine, over}
use Rattle.pq_rules.specs.Relations.{Each, In}
use Rattle.pq_rules.specs.Value.{Trace, Follows, Means, RightRead, ComesBy, ComesTo, Waits}
use Rattle.pq_rules.proofs.Rings.{Strict}
use Rattle.pq_rules.proofs.Uniqueness.{means_one}
use Rattle.pq_rules.proofs.Characterisation.{means_done, done_means, means_passed, cycle_waits, comes_on, comes_start}
use Rattle.pq_rules.specs.aux.Lists.{in_append, in_append_left, in_append_right}
use Rattle.pq_memo.specs.Sound.{asked_keys, AsksAt, HasReads}

-- the key has one answer in both
abbrev pub Both : {K P V : Type 0} → Instance K P V → Instance K P V → K → Type 0
Both {K} {P} {V} old new q = (b : Answer K V) × Means old q b × Means new q b

-- the answers that a run was given, each right in the other too
pub still_right : {K P V : Type 0} (old new : Instance K P V) → Strict old.order → (l : ℕ) (es : Trace K V) → Each (RightRead old l) es
    → ((q : K) → In q (asked_keys es) → Both old new q) → Each (λ e. Means new e.0 e.1) es
still_right old new strict l [] told both = tt
still_right {K} {P} {V} old new strict l (e ∷ es) told both =
    let b = both e.0 (inl refl) in
    let one : e.1 ≡ b.0 = means_one old strict e.0 e.1 b.0 told.0.means b.1 in (
      subst (λ (x : Answer K V). Means new e.0 x) (sym one) b.2,
      still_right old new strict l es told.1 (λ q i. both q (inr i)),
    )

module _ {K P V : Type 0} (s : Instance K P V) where
  told_pair : (l : ℕ) (e : K × Answer K V) → RightRead s l e → RightRead s l (e.0, e.1)
  told_pair l (a, b) t = t

  -- each question of a run was asked
  pub asked_from : (k : K) (t : Turn K P V) (es : Trace K V) (u : Turn K P V)
      → ComesTo s k t → Follows s t es u → Each (RightRead s (s.level k)) es
      → Each (λ e. (p : P) × ComesTo s k (Ask e.0 p)) es
  unfolding Follows
  asked_from k t [] u c f told = tt
  asked_from k t (e ∷ es) u c f told =
      let here : ComesTo s k (Ask e.0 f.0) = subst (λ (x : Turn K P V). ComesTo s k x) f.1 c in
      let on : ComesTo s k (s.advance f.0 e.1) = comes_on s k e.0 f.0 e.1 here (told_pair (s.level k) e told.0) in
      ((f.0, here), asked_from k (s.advance f.0 e.1) es u on f.2 told.1)

  asked_in : (k : K) (es : Trace K V) (q : K) → Each (λ e. (p : P) × ComesTo s k (Ask e.0 p)) es → In q (asked_keys es)
      → (p : P) × ComesTo s k (Ask q p)
  asked_in k [] q a i = absurd i
  asked_in k (e ∷ es) q a (inl e1) = (a.0.0, subst (λ (x : K). ComesTo s k (Ask x a.0.0)) (sym e1) a.0.1)
  asked_in k (e ∷ es) q a (inr i) = asked_in k es q a.1 i

  pub run_asks : (k : K) (es : Trace K V) (u : Turn K P V) (q : K) → 0 < s.level k → ComesBy s k es u → In q (asked_keys es) → AsksAt s k q
  run_asks k es u q up c i =
      let a = asked_in k es q (asked_from k (s.start k) es u (comes_start s k) c.follows c.told) i in
      record { ruled = up; part = a.0; comes = a.1 }

  -- what the key reads, it asks
  pub reads_asked : (k : K) (a : Answer K V) (reads : List K) (q : K) → 0 < s.level k → HasReads s k a reads → In q reads → AsksAt s k q
  reads_asked k (Value v) reads q up r i = run_asks k r.0 (Done v) q up r.1 (subst (λ (ks : List K). In q ks) r.2 i)
  reads_asked k (Cycle c) reads q up r i =
      elim (in_append q (asked_keys r.0) (r.1 ∷ []) (subst (λ (ks : List K). In q ks) r.4 i)) [
        | inl j ↦ run_asks k r.0 (Ask r.1 r.2) q up r.3 j
        | inr (inl e) ↦ record { ruled = up; part = r.2; comes = subst (λ (x : K). ComesTo s k (Ask x r.2)) (sym e) (r.0, r.3) }
        | inr (inr j) ↦ absurd j
      ]

  trace_answer : (l : ℕ) (es : Trace K V) (q : K) → Each (RightRead s l) es → In q (asked_keys es) → (b : Answer K V) × Means s q b
  trace_answer l [] q told i = absurd i
  trace_answer l (e ∷ es) q told (inl e1) = (e.1, subst (λ (x : K). Means s x e.1) (sym e1) told.0.means)
  trace_answer l (e ∷ es) q told (inr i) = trace_answer l es q told.1 i

  -- what it reads has an answer
  pub read_answer : (k : K) (a : Answer K V) (reads : List K) (q : K) → HasReads s k a reads → In q reads → (b : Answer K V) × Means s q b
  read_answer k (Value v) reads q r i = trace_answer (s.level k) r.0 q r.1.told (subst (λ (ks : List K). In q ks) r.2 i)
  read_answer k (Cycle c) reads q r i =
      elim (in_append q (asked_keys r.0) (r.1 ∷ []) (subst (λ (ks : List K). In q ks) r.4 i)) [
        | inl j ↦ trace_answer (s.level k) r.0 q r.3.told j
        | inr (inl e) ↦ (Cycle c, subst (λ (x : K). Means s x (Cycle c)) (sym e) r.6)
        | inr (inr j) ↦ absurd j
      ]

  -- the answer of a key that has these reads
  pub reads_mean : Strict s.order → (k : K) (a : Answer K V) (reads : List K) → 0 < s.level k → HasReads s k a reads → Means s k a
  unfolding Waits
  reads_mean strict k (Value v) reads up r = means_done s k v up (r.0, r.1)
  reads_mean strict k (Cycle c) reads up r = means_passed s strict k r.1 c up (r.5, (r.2, (r.0, r.3))) r.6

  -- a key with an answer has reads
  pub has_reads : (k : K) (a : Answer K V) → 0 < s.level k → Means s k a → (reads : List K) × HasReads s k a reads
  unfolding Waits
  has_reads k (Value v) up means = let c = done_means s k v up means in (asked_keys c.0, (c.0, c.1, refl))
  has_reads k (Cycle c) up means =
      let w = cycle_waits s k c up means in
      (asked_keys w.1.1.1.0 ++ w.0 ∷ [], (w.1.1.1.0, w.0, w.1.1.0, w.1.1.1.1, refl, w.1.0, w.2))

  -- a first step of a run is among the keys of one that ends
  first_asked : Strict s.order → (l : ℕ) (es fs : Trace K V) (t u : Turn K P V) (q : K) (p : P) (v : V)
      → t ≡ u → Follows s t es (Done v) → Follows s u fs (Ask q p) → Each (RightRead s l) es → Each (RightRead s l) fs → In q (asked_keys es)
  unfolding Follows
  first_asked strict l [] [] t u q p v e f g a b = cc
  first_asked strict l [] (x ∷ xs) t u q p v e f g a b = let h = g.1 in cc
  first_asked strict l (x ∷ xs) [] t u q p v e f g a b =
      let same : Ask q p ≡ Ask x.0 f.0 = sym g ∙ sym e ∙ f.1 in inl (cc)
  first_asked strict l (x ∷ xs) (y ∷ ys) t u q p v e f g a b =
      let left : Turn K P V = Ask x.0 f.0 in
      let right : Turn K P V = Ask y.0 g.0 in
      let same : left ≡ right = sym f.1 ∙ e ∙ g.1 in
      let key : x.0 ≡ y.0 = cc in
      let part : f.0 ≡ g.0 = cc in
      let there : Means s x.0 y.1 = subst (λ (k : K). Means s k y.1) (sym key) b.0.means in
      let answer : x.1 ≡ y.1 = means_one s strict x.0 x.1 y.1 a.0.means there in
      let on : s.advance f.0 x.1 ≡ s.advance g.0 y.1 = cc in
      inr (first_asked strict l xs ys (s.advance f.0 x.1) (s.advance g.0 y.1) q p v on f.2 g.2 a.1 b.1)

  -- and of one that stops at a key of its level that has a cycle
  first_asked_cycle : Strict s.order → (l : ℕ) (es fs : Trace K V) (t u : Turn K P V) (q : K) (p : P) (c : K) (o : P) (ring : List K)
      → s.level c ≡ l → Means s c (Cycle ring)
      → t ≡ u → Follows s t es (Ask c o) → Follows s u fs (Ask q p) → Each (RightRead s l) es → Each (RightRead s l) fs → In q (asked_keys es ++ c ∷ [])
  unfolding Follows
  first_asked_cycle strict l [] [] t u q p c o ring at means e f g a b =
      let same : Ask q p ≡ Ask c o = sym g ∙ sym e ∙ f in inl (cc)
  first_asked_cycle strict l [] (y ∷ ys) t u q p c o ring at means e f g a b =
      let left : Turn K P V = Ask c o in
      let right : Turn K P V = Ask y.0 g.0 in
      let same : left ≡ right = sym f ∙ e ∙ g.1 in
      let key : c ≡ y.0 = cc in
      let level : s.level y.0 ≡ l = subst (λ (k : K). s.level k ≡ l) key at in
      let v = b.0.value level in
      let there : Means s c y.1 = subst (λ (k : K). Means s k y.1) (sym key) b.0.means in
      let one : Cycle ring ≡ y.1 = means_one s strict c (Cycle ring) y.1 means there in
      let value : y.1 ≡ Value v.0 = v.1 in
      cc
  first_asked_cycle strict l (x ∷ xs) [] t u q p c o ring at means e f g a b =
      let same : Ask q p ≡ Ask x.0 f.0 = sym g ∙ sym e ∙ f.1 in inl (cc)
  first_asked_cycle strict l (x ∷ xs) (y ∷ ys) t u q p c o ring at means e f g a b =
      let left : Turn K P V = Ask x.0 f.0 in
      let right : Turn K P V = Ask y.0 g.0 in
      let same : left ≡ right = sym f.1 ∙ e ∙ g.1 in
      let key : x.0 ≡ y.0 = cc in
      let part : f.0 ≡ g.0 = cc in
      let there : Means s x.0 y.1 = subst (λ (k : K). Means s k y.1) (sym key) b.0.means in
      let answer : x.1 ≡ y.1 = means_one s strict x.0 x.1 y.1 a.0.means there in
      let on : s.advance f.0 x.1 ≡ s.advance g.0 y.1 = cc in
      inr (first_asked_cycle strict l xs ys (s.advance f.0 x.1) (s.advance g.0 y.1) q p c o ring at means on f.2 g.2 a.1 b.1)

  -- what the key asks, it reads
  pub asks_read : Strict s.order → (k : K) (a : Answer K V) (reads : List K) (q : K) → HasReads s k a reads → AsksAt s k q → In q reads
  asks_read strict k (Value v) reads q r asks =
      subst (λ (ks : List K). In q ks) (sym r.2)
      (first_asked strict (s.level k) r.0 asks.comes.0 (s.start k) (s.start k) q asks.part v refl r.1.follows asks.comes.1.follows r.1.told asks.comes.1.told)
  asks_read strict k (Cycle c) reads q r asks =
      subst (λ (ks : List K). In q ks) (sym r.4)
      (first_asked_cycle strict (s.level k) r.0 asks.comes.0 (s.start k) (s.start k) q asks.part r.1 r.2 c r.5 r.6 refl r.3.follows asks.comes.1.follows r.3.told asks.comes.1.told)

module _ {K P V : Type 0} (order : K → K → Ordering) (m : Machine K P V) (before after : Sources) where
  abbrev pub old : Instance K P V
  old = over order m before

  abbrev pub new : Instance K P V
  new = over order m after

  follows_over : (t : Turn K P V) (es : Trace K V) (u : Turn K P V) → Follows old t es u → Follows new t es u
  unfolding Follows
  follows_over t [] u f = f
  follows_over t (e ∷ es) u f = (f.0, f.1, follows_over (m.advance f.0 e.1) es u f.2)

  told_over : (l : ℕ) (es : Trace K V) → Each (RightRead old l) es → Each (λ e. Means new e.0 e.1) es → Each (RightRead new l) es
  told_over l [] t s = tt
  told_over l (e ∷ es) t s = (record { no_higher = t.0.no_higher; means = s.0; value = t.0.value }, told_over l es t.1 s.1)

  -- the same questions and answers, where each answer is still right
  pub same_run : (k : K) (es : Trace K V) (u : Turn K P V) → ComesBy old k es u
      → Each (λ e. Means new e.0 e.1) es → ComesBy new k es u
  same_run k es u c still = record {
    follows = follows_over (m.start k) es u c.follows;
    told = told_over (m.level k) es c.told still;
  }

  -- the reads stay, where each has then and now one answer
  pub reads_still : Strict order → (k : K) (a : Answer K V) (reads : List K) → HasReads old k a reads
      → ((q : K) → In q reads → Both old new q) → HasReads new k a reads
  reads_still strict k (Value w) reads r both =
      let still = still_right old new strict (m.level k) r.0 r.1.told (λ q i. both q (subst (λ (ks : List K). In q ks) (sym r.2) i)) in
      (r.0, same_run k r.0 (Done w) r.1 still, r.2)
  reads_still strict k (Cycle c) reads r both =
      let still = still_right old new strict (m.level k) r.0 r.3.told
      (λ q i. both q (subst (λ (ks : List K). In q ks) (sym r.4) (in_append_left q (asked_keys r.0) (r.1 ∷ []) i))) in
      let last = both r.1 (subst (λ (ks : List K). In r.1 ks) (sym r.4) (in_append_right r.1 (asked_keys r.0) (r.1 ∷ []) (inl refl))) in
      let one : Cycle c ≡ last.0 = means_one old strict r.1 (Cycle c) last.0 r.6 last.1 in (
        r.0,
        r.1,
        r.2,
        same_run k r.0 (Ask r.1 r.2) r.3 still,
        r.4,
        r.5,
        subst (λ (x : Answer K V). Means new r.1 x) (sym one) last.2,
      )
