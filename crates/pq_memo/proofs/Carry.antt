-- An answer stays right where nothing that it rests on has changed.
use Rattle.std.proofs.Common.{◌≡◌, ℕ, zero, suc, ◌<◌, ◌≤◌, List, [], ◌∷◌, refl, sym, ◌∙◌, subst, inl, inr, arith}
use Rattle.std.specs.declared.cmp.Ordering.{Ordering}
use Rattle.pq_inputs.specs.Sources.{Sources}
use Rattle.pq_rules.specs.declared.turn.Turn.{Turn}
use Rattle.pq_rules.specs.declared.turn.Turn.TheVariants.{Ask, Done}
use Rattle.pq_rules.specs.declared.turn.Answer.{Answer}
use Rattle.pq_rules.specs.declared.turn.Answer.TheVariants.{Value, Cycle}
use Rattle.pq_rules.specs.Turns.{Instance, Machine}
use Rattle.pq_rules.specs.Relations.{Each, Chain, Leads, Round, IsRing, LeadsInto}
use Rattle.pq_rules.specs.Value.{Trace, Follows, Right, Settles, IsSettled, Asks, Next, Answers, Below, Means, RightRead, ComesBy, ComesTo, Waits}
use Rattle.pq_rules.proofs.Settled.{each_map}
use Rattle.pq_rules.proofs.Rings.{Strict}
use Rattle.pq_rules.proofs.Uniqueness.{below_means}
use Rattle.pq_rules.specs.aux.Runs.{means_at, input_means}
use Rattle.pq_rules.proofs.Characterisation.{right_told, means_done, means_passed, means_ring, asks_comes, comes_start, under_or_at, means_input}
use Rattle.pq_memo.specs.Sound.{AsksAt}
use Rattle.pq_memo.proofs.Runs.{asked_from, same_run, old, new}

each_zip : {A : Type 0} (P Q R : A → Type 0) (xs : List A) → ((x : A) → P x → Q x → R x) → Each P xs → Each Q xs → Each R xs
each_zip P Q R [] f a b = tt
each_zip P Q R (x ∷ xs) f a b = (f x a.0 b.0, each_zip P Q R xs f a.1 b.1)

higher : {K P V : Type 0} (s : Instance K P V) (k x : K) → 0 < s.level k → Waits s k x → 0 < s.level x
unfolding Waits
higher s k x h w = let e : s.level x ≡ s.level k = w.0 in omega arith

-- what waits for a key with a cycle, through a chain, has the cycle
pub passed_along : {K P V : Type 0} (s : Instance K P V) → Strict s.order → (k : K) (xs : List K) (z : K) (r : List K)
    → 0 < s.level k → Chain (Waits s) k xs z → Means s z (Cycle r) → Means s k (Cycle r)
unfolding Chain
passed_along s strict k [] z r high c means = means_passed s strict k z r high c means
passed_along s strict k (x ∷ xs) z r high c means =
    means_passed s strict k x r high c.0 (passed_along s strict x xs z r (higher s k x high c.0) c.1 means)

module _ {K P V : Type 0} (order : K → K → Ordering) (m : Machine K P V) (before after : Sources) where
  abbrev was : Instance K P V
  was = old order m before after

  abbrev is : Instance K P V
  is = new order m before after

  module _ (strict : Strict order) (Q : K → Type 0)
      (closed : (k q : K) → Q k → AsksAt was k q → Q q)
      (same : (k : K) → Q k → m.level k ≡ 0 → was.input k ≡ is.input k) where
    -- the run of a key at level suc l, whose answers below and at its level carry over
    carry_run : (l : ℕ) → ((q : K) (b : Answer K V) → m.level q ≤ l → Q q → Means was q b → Means is q b)
        → (S : K → V → Type 0) → ((q : K) (v : V) → S q v → IsSettled was (Below was (suc l)) (suc l) q v)
        → ((q : K) (v : V) → m.level q ≡ suc l → Q q → S q v → Means is q (Value v))
        → (k : K) (es : Trace K V) (u : Turn K P V) → m.level k ≡ suc l → Q k → Follows was (m.start k) es u
        → Each (Right was (Below was (suc l)) S (suc l)) es → ComesBy is k es u
    unfolding Right
    carry_run l low S settled carries k es u at here f right =
        let told : Each (RightRead was (m.level k)) es =
        subst (λ (i : ℕ). Each (RightRead was i) es) (sym at)
        (each_map (Right was (Below was (suc l)) S (suc l)) (RightRead was (suc l)) es
        (λ e r. right_told was l e (elim r [ inl a ↦ inl a | inr b ↦ inr (b.0, b.1, b.2, settled e.0 b.0 b.3) ])) right) in
        let asked = asked_from was k (m.start k) es u (comes_start was k) f told in
        let run : ComesBy was k es u = record { follows = f; told = told } in
        same_run order m before after k es u run
        (each_zip (Right was (Below was (suc l)) S (suc l)) (λ e. (p : P) × ComesTo was k (Ask e.0 p)) (λ e. Means is e.0 e.1) es
        (λ e r a.
        let inside : Q e.0 = closed k e.0 here (record { ruled = subst (λ (i : ℕ). 0 < i) (sym at) (omega arith); part = a.0; comes = a.1 }) in
        elim r [
          | inl b ↦ (let x = below_means was (suc l) e.0 e.1 b in
              let h : m.level e.0 < suc l = x.0 in low e.0 e.1 (omega arith) inside x.1)
          | inr b ↦ subst (λ (x : Answer K V). Means is e.0 x) (sym b.2) (carries e.0 b.0 b.1 inside b.3)
        ])
        right asked)

    carry_value : (l : ℕ) → ((q : K) (b : Answer K V) → m.level q ≤ l → Q q → Means was q b → Means is q b)
        → (h : ℕ) (k : K) (v : V) → m.level k ≡ suc l → Q k → Settles was (Below was (suc l)) (suc l) h k v → Means is k (Value v)
    unfolding Settles IsSettled
    carry_value l low zero k v at here s = absurd s
    carry_value l low (suc h) k v at here s =
        means_done is k v (omega arith) (
          s.0,
          carry_run l low (Settles was (Below was (suc l)) (suc l) h) (λ q w t. (h, t)) (λ q w i j t. carry_value l low h q w i j t)
              k s.0 (Done v) at here s.1 s.2,
        )

    carry_next : (l : ℕ) → ((q : K) (b : Answer K V) → m.level q ≤ l → Q q → Means was q b → Means is q b)
        → (k q : K) → m.level k ≡ suc l → Q k → Next was (Below was (suc l)) (suc l) k q
        → Waits is k q × (m.level q ≡ suc l) × Q q
    unfolding Next Asks Waits IsSettled
    carry_next l low k q at here n =
        let run : ComesBy is k n.0.0 (Ask q n.0.1) =
        carry_run l low (IsSettled was (Below was (suc l)) (suc l)) (λ x w t. t) (λ x w i j t. carry_value l low t.0 x w i j t.1)
        k n.0.0 (Ask q n.0.1) at here n.0.2 n.0.3 in
        let back = asks_comes was l k q at n.0 in
        ((n.1 ∙ sym at, (n.0.1, (n.0.0, run))), n.1, closed k q here (record { ruled = subst (λ (i : ℕ). 0 < i) (sym at) (omega arith); part = back.0; comes = back.1 }))

    carry_chain : (l : ℕ) → ((q : K) (b : Answer K V) → m.level q ≤ l → Q q → Means was q b → Means is q b)
        → (k : K) (xs : List K) (z : K) → m.level k ≡ suc l → Q k → Chain (Next was (Below was (suc l)) (suc l)) k xs z
        → Chain (Waits is) k xs z × (m.level z ≡ suc l) × Q z
    unfolding Chain
    carry_chain l low k [] z at here c = carry_next l low k z at here c
    carry_chain l low k (x ∷ xs) z at here c =
        let step = carry_next l low k x at here c.0 in
        let more = carry_chain l low x xs z step.1 step.2 c.1 in
        ((step.0, more.0), more.1, more.2)

    carry_cycle : (l : ℕ) → ((q : K) (b : Answer K V) → m.level q ≤ l → Q q → Means was q b → Means is q b)
        → (k : K) (r : List K) → m.level k ≡ suc l → Q k
        → IsRing order (Next was (Below was (suc l)) (suc l)) r → LeadsInto (Next was (Below was (suc l)) (suc l)) k r
        → Means is k (Cycle r)
    unfolding IsRing LeadsInto Leads Round
    carry_cycle l low k [] at here ring leads = absurd ring
    carry_cycle l low k (z ∷ zs) at here ring (inl e) =
        let at' : m.level z ≡ suc l = subst (λ (x : K). m.level x ≡ suc l) e at in
        let here' : Q z = subst Q e here in
        let round = carry_chain l low z zs z at' here' ring.0 in
        subst (λ (x : K). Means is x (Cycle (z ∷ zs))) (sym e)
        (means_ring is strict z zs (omega arith) round.0 ring.1 z (inl refl))
    carry_cycle l low k (z ∷ zs) at here ring (inr c) =
        let way = carry_chain l low k c.0 z at here c.1 in
        let level : m.level z ≡ suc l = way.1 in
        let round = carry_chain l low z zs z way.1 way.2 ring.0 in
        let head = means_ring is strict z zs (omega arith) round.0 ring.1 z (inl refl) in
        passed_along is strict k c.0 z (z ∷ zs) (omega arith) way.0 head

    carry_upto : (n : ℕ) (k : K) (a : Answer K V) → m.level k ≤ n → Q k → Means was k a → Means is k a
    unfolding Answers IsSettled
    carry_upto zero k a h here means =
        let at : m.level k ≡ 0 = omega arith in
        let e : a ≡ Value (was.input k) = input_means was k a at means in
        subst (λ (x : Answer K V). Means is k x) (sym e) (means_input is k (was.input k) at (same k here at))
    carry_upto (suc l) k a h here means =
        elim (under_or_at (m.level k) (suc l) h) [
          | inl j ↦ carry_upto l k a (omega arith) here means
          | inr at ↦ carry_at l (carry_upto l) k a at here (means_at was (suc l) k a at means)
        ]
      where
        carry_at : (l : ℕ) → ((q : K) (b : Answer K V) → m.level q ≤ l → Q q → Means was q b → Means is q b)
            → (k : K) (a : Answer K V) → m.level k ≡ suc l → Q k → Answers was (Below was (suc l)) (suc l) k a → Means is k a
        carry_at l low k (Value v) at here s = carry_value l low s.0 k v at here s.1
        carry_at l low k (Cycle r) at here s = carry_cycle l low k r at here s.0 s.1

    -- what rests on inputs that are the same has the same answer
    pub carry : (k : K) (a : Answer K V) → Q k → Means was k a → Means is k a
    carry k a here means = carry_upto (m.level k) k a (omega arith) here means
