-- A key has at most one answer (`means_one`): by levels, from the facts of one level
-- (`settled_one`, `next_single`, `one_ring`).
use Rattle.std.proofs.Common.{◌≡◌, ℕ, zero, suc, ◌⊎◌, ◌<◌, List, [], ◌∷◌, sym, ◌∙◌, ap, subst, inl, inr, arith}
use Rattle.pq_rules.specs.declared.turn.Answer.{Answer}
use Rattle.pq_rules.specs.declared.turn.Answer.TheVariants.{Value, Cycle}
use Rattle.pq_rules.specs.Turns.{Instance}
use Rattle.pq_rules.specs.Relations.{Chain, Leads, IsRing, LeadsInto}
use Rattle.pq_rules.specs.Value.{Unsettled, Next, Answers, Below, Means}
use Rattle.pq_rules.proofs.Settled.{Lower, settled_one, next_single, next_unsettled}
use Rattle.pq_rules.proofs.Rings.{Strict, one_ring}

-- what leads into a ring has a next
pub has_next : {K : Type 0} (N : K → K → Type 0) (k z : K) (zs : List K) → Chain N z zs z → Leads N k z
    → (q : K) × N k q
unfolding Chain Leads
has_next {K} N k z [] c (inl p) = (z, subst (λ (x : K). N x z) (sym p) c)
has_next {K} N k z (y ∷ ys) c (inl p) = (y, subst (λ (x : K). N x y) (sym p) c.0)
has_next N k z zs c (inr ([], d)) = (z, d)
has_next N k z zs c (inr (y ∷ ys, d)) = (y, d.0)

pub cycle_unsettled : {K P V : Type 0} (m : Instance K P V) (lower : K → Answer K V → Type 0) (l : ℕ) → Lower m lower l
    → (k : K) (r : List K) → IsRing m.order (Next m lower l) r → LeadsInto (Next m lower l) k r → Unsettled m lower l k
unfolding IsRing LeadsInto
cycle_unsettled m lower l low k [] r i = absurd r
cycle_unsettled m lower l low k (z ∷ zs) r i =
    let n = has_next (Next m lower l) k z zs r.0 i in next_unsettled m lower l low k n.0 n.1

pub answers_one : {K P V : Type 0} (m : Instance K P V) → Strict m.order → (lower : K → Answer K V → Type 0) (l : ℕ)
    → Lower m lower l → (k : K) (a b : Answer K V) → Answers m lower l k a → Answers m lower l k b → a ≡ b
unfolding Answers Unsettled
answers_one m strict lower zero low k a b p q = p ∙ sym q
answers_one {K} {P} {V} m strict lower (suc l) low k (Value v) (Value w) p q =
    ap (λ (x : V). Value x) (settled_one m lower (suc l) low k v w p q)
answers_one m strict lower (suc l) low k (Value v) (Cycle r) p q =
    absurd (cycle_unsettled m lower (suc l) low k r q.0 q.1 v p)
answers_one m strict lower (suc l) low k (Cycle r) (Value v) p q =
    absurd (cycle_unsettled m lower (suc l) low k r p.0 p.1 v q)
answers_one {K} {P} {V} m strict lower (suc l) low k (Cycle r) (Cycle s) p q =
    ap (λ (x : List K). Cycle x)
    (one_ring m.order strict (Next m lower (suc l)) (next_single m lower (suc l) low) k r s p.0 q.0 p.1 q.1)

pub below_lower : {K P V : Type 0} (m : Instance K P V) → Strict m.order → (l : ℕ) → Lower m (Below m l) l
unfolding Below
below_lower m strict zero = record { below = λ q a b. absurd b; one = λ q a b x y. absurd x }
below_lower {K} {P} {V} m strict (suc l) =
    let low = below_lower m strict l in
    record {
      below = λ q a b. elim b [
        | inl x ↦ let h : m.level q < l = x.0 in omega arith
        | inr x ↦ let h : m.level q ≡ l = x.0 in omega arith
      ];
      one = λ q a b x y. elim x [
        | inl x' ↦ elim y [
          | inl y' ↦ low.one q a b x'.1 y'.1
          | inr y' ↦ let h : m.level q < l = x'.0 in let j : m.level q ≡ l = y'.0 in absurd (omega arith)
        ]
        | inr x' ↦ elim y [
          | inl y' ↦ let h : m.level q < l = y'.0 in let j : m.level q ≡ l = x'.0 in absurd (omega arith)
          | inr y' ↦ answers_one m strict (Below m l) l low q a b x'.1 y'.1
        ]
      ];
    }

pub means_one : {K P V : Type 0} (m : Instance K P V) → Strict m.order → (k : K) (a b : Answer K V)
    → Means m k a → Means m k b → a ≡ b
unfolding Means
means_one m strict k a b p q =
    answers_one m strict (Below m (m.level k)) (m.level k) (below_lower m strict (m.level k)) k a b p q

pub below_means : {K P V : Type 0} (m : Instance K P V) (l : ℕ) (k : K) (a : Answer K V)
    → Below m l k a → (m.level k < l) × Means m k a
unfolding Below Means
below_means m zero k a b = absurd b
below_means {K} {P} {V} m (suc l) k a (inl b) =
    let h : m.level k < l = b.0 in (omega arith, (below_means m l k a b.1).1)
below_means {K} {P} {V} m (suc l) k a (inr b) =
    let h : m.level k ≡ l = b.0 in
    (omega arith, subst (λ (j : ℕ). Answers m (Below m j) j k a) (sym b.0) b.1)

pub means_below : {K P V : Type 0} (m : Instance K P V) (l : ℕ) (k : K) (a : Answer K V)
    → m.level k < l → Means m k a → Below m l k a
unfolding Below Means
means_below m zero k a h x = absurd (omega arith)
means_below {K} {P} {V} m (suc l) k a h x =
    let two : (m.level k < l) ⊎ (m.level k ≡ l) = below_or_at (m.level k) l h in
    elim two [
      | inl j ↦ inl (j, means_below m l k a j x)
      | inr j ↦ inr (j, subst (λ (i : ℕ). Answers m (Below m i) i k a) j x)
    ]
  where
    below_or_at : (n i : ℕ) → n < suc i → (n < i) ⊎ (n ≡ i)
    below_or_at n i h = grind arith
