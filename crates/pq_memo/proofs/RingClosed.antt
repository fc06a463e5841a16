-- Keys each of which sits at a question for the next, and the last at one for the first: they are a
-- ring.
use Rattle.std.proofs.Common.{◌≡◌, ℕ, ◌<◌, ◌≤◌, List, [], ◌∷◌, ◌++◌, refl, sym, ◌∙◌, ap, subst, inl, inr, arith}
use Rattle.std.specs.declared.cmp.Ordering.{Ordering}
use Rattle.std.specs.declared.cmp.Ordering.TheVariants.{Less}
use Rattle.pq_inputs.specs.Sources.{Sources}
use Rattle.pq_rules.specs.declared.turn.Turn.TheVariants.{Ask}
use Rattle.pq_rules.specs.declared.turn.Answer.TheVariants.{Cycle}
use Rattle.pq_rules.specs.Turns.{Instance, Machine}
use Rattle.pq_rules.specs.Relations.{Each, In, Chain, Round}
use Rattle.pq_rules.specs.Value.{ComesTo, Means, Waits}
use Rattle.pq_rules.proofs.Rings.{Strict}
use Rattle.pq_rules.proofs.Characterisation.{means_ring}
use Rattle.pq_memo.specs.Sound.{Memo, at, HasReads}
use Rattle.pq_memo.specs.Look.{IsUpToDate}
use Rattle.pq_memo.specs.Writes.{ring_keys, fronts}
use Rattle.pq_memo.specs.aux.Frames.{RingSits, members}
use Rattle.pq_memo.proofs.PutAll.{fronts_push}

module _ {K P V : Type 0} (order : K → K → Ordering) (strict : Strict order) (m : Machine K P V) (history : List Sources) (now : ℕ)
    (Has : K → Memo K V → Type 0)
    (no_higher : (k q : K) (p : P) → ComesTo (at order m history now) k (Ask q p) → m.level q ≤ m.level k) where
  abbrev s : Instance K P V
  s = at order m history now

  -- the levels fall from the first key on, and do not fall below the key that the last one asks for
  levels : (first k : K) (front : List K) (es : List (K × List K)) → RingSits order m history now Has first ((k, front) ∷ es)
      → (x : K) → In x (ring_keys ((k, front) ∷ es)) → (m.level first ≤ m.level x) × (m.level x ≤ m.level k)
  unfolding RingSits
  levels first k front [] r x (inl e) =
      let same : m.level x ≡ m.level k = ap m.level e in
      let low : m.level first ≤ m.level k = no_higher k first r.0 (r.1.run, r.1.comes) in
      (omega arith, omega arith)
  levels first k front [] r x (inr i) = absurd i
  levels first k front ((l, other) ∷ es) r x (inl e) =
      let same : m.level x ≡ m.level k = ap m.level e in
      let low : m.level l ≤ m.level k = no_higher k l r.0.0 (r.0.1.run, r.0.1.comes) in
      let rest = levels first l other es r.1 l (inl refl) in
      let a : m.level first ≤ m.level l = rest.0 in
      (omega arith, omega arith)
  levels first k front ((l, other) ∷ es) r x (inr i) =
      let low : m.level l ≤ m.level k = no_higher k l r.0.0 (r.0.1.run, r.0.1.comes) in
      let rest = levels first l other es r.1 x i in
      let a : m.level first ≤ m.level x = rest.0 in
      let b : m.level x ≤ m.level l = rest.1 in
      (omega arith, omega arith)

  chain_of : (l : ℕ) (first k : K) (front : List K) (es : List (K × List K)) → RingSits order m history now Has first ((k, front) ∷ es)
      → m.level first ≡ l → ((x : K) → In x (ring_keys ((k, front) ∷ es)) → m.level x ≡ l) → Chain (Waits s) k (ring_keys es) first
  unfolding RingSits Chain Waits
  chain_of l first k front [] r at same = (at ∙ sym (same k (inl refl)), (r.0, (r.1.run, r.1.comes)))
  chain_of l first k front ((j, other) ∷ es) r at same = (
    (same j (inr (inl refl)) ∙ sym (same k (inl refl)), (r.0.0, (r.0.1.run, r.0.1.comes))),
    chain_of l first j other es r.1 at (λ x i. same x (inr i)),
  )

  reads_of : (l : ℕ) (ring : List K) (first k : K) (front : List K) (es : List (K × List K)) → RingSits order m history now Has first ((k, front) ∷ es)
      → m.level first ≡ l → ((x : K) → In x (ring_keys ((k, front) ∷ es)) → m.level x ≡ l)
      → Means s first (Cycle ring) → ((x : K) → In x (ring_keys ((k, front) ∷ es)) → Means s x (Cycle ring))
      → Each (λ e. HasReads s e.0 (Cycle ring) e.1) (members first ((k, front) ∷ es))
  unfolding RingSits
  reads_of l ring first k front [] r at same means all =
      ((r.1.run, first, r.0, r.1.comes, ap (λ (ks : List K). ks ++ first ∷ []) (sym r.1.reads), at ∙ sym (same k (inl refl)), means), tt)
  reads_of l ring first k front ((j, other) ∷ es) r at same means all = (
    (r.0.1.run, j, r.0.0, r.0.1.comes, ap (λ (ks : List K). ks ++ j ∷ []) (sym r.0.1.reads), same j (inr (inl refl)) ∙ sym (same k (inl refl)), all j (inr (inl refl))),
    reads_of l ring first j other es r.1 at (λ x i. same x (inr i)) means (λ x i. all x (inr i)),
  )

  keys_of : (first k : K) (front : List K) (es : List (K × List K)) → ring_keys (members first ((k, front) ∷ es)) ≡ ring_keys ((k, front) ∷ es)
  keys_of first k front [] = refl
  keys_of first k front ((j, other) ∷ es) = ap (λ ks. k ∷ ks) (keys_of first j other es)

  ruled : (z : K) (front : List K) (es : List (K × List K)) → RingSits order m history now Has z ((z, front) ∷ es) → 0 < m.level z
  unfolding RingSits
  ruled z front [] r = r.1.ruled
  ruled z front (e ∷ es) r = r.0.1.ruled

  -- the reads made for the keys of the ring, in the ring's order from its least key on
  pub ring_closed : (z : K) (front : List K) (es : List (K × List K)) → RingSits order m history now Has z ((z, front) ∷ es)
      → Each (λ x. order z x ≡ Less) (ring_keys es)
      → Each (λ e. HasReads s e.0 (Cycle (ring_keys (members z ((z, front) ∷ es)))) e.1) (members z ((z, front) ∷ es))
  unfolding Round
  ring_closed z front es r least =
      let ring : List K = z ∷ ring_keys es in
      let same : (x : K) → In x ring → m.level x ≡ m.level z = λ x i.
      (let b = levels z z front es r x i in let a : m.level z ≤ m.level x = b.0 in let c : m.level x ≤ m.level z = b.1 in omega arith) in
      let up : 0 < m.level z = ruled z front es r in
      let round : Chain (Waits s) z (ring_keys es) z = chain_of (m.level z) z z front es r refl same in
      let all : (x : K) → In x ring → Means s x (Cycle ring) = λ x i. means_ring s strict z (ring_keys es) up round least x i in
      subst (λ (ks : List K). Each (λ (e : K × List K). HasReads s e.0 (Cycle ks) e.1) (members z ((z, front) ∷ es))) (sym (keys_of z z front es))
      (reads_of (m.level z) ring z z front es r refl same (all z (inl refl)) all)

  -- what they read before they lead round is up to date
  pub ring_fresh : (first k : K) (front : List K) (es : List (K × List K)) → RingSits order m history now Has first ((k, front) ∷ es)
      → Each (λ e. Each (IsUpToDate m now Has) (fronts e.1)) (members first ((k, front) ∷ es))
  unfolding RingSits
  ring_fresh first k front [] r = (subst (λ (ks : List K). Each (IsUpToDate m now Has) ks) (sym (fronts_push front first)) r.1.fresh, tt)
  ring_fresh first k front ((j, other) ∷ es) r =
      (subst (λ (ks : List K). Each (IsUpToDate m now Has) ks) (sym (fronts_push front j)) r.0.1.fresh, ring_fresh first j other es r.1)
