-- Auxiliary: facts along the run of a rule (used by proofs and invariants only). The laws of the
-- example cite them, and a law of a trait's impl may cite specs/ alone.
use Rattle.std.proofs.Common.{◌≡◌, ℕ, [], ◌∷◌, subst}
use Rattle.pq_rules.specs.declared.turn.Turn.{Turn}
use Rattle.pq_rules.specs.declared.turn.Turn.TheVariants.{Ask}
use Rattle.pq_rules.specs.declared.turn.Answer.{Answer}
use Rattle.pq_rules.specs.declared.turn.Answer.TheVariants.{Value}
use Rattle.pq_rules.specs.Turns.{Instance}
use Rattle.pq_rules.specs.Relations.{Each}
use Rattle.pq_rules.specs.Value.{Trace, Follows, Answers, Below, Means, RightRead, ComesTo}

-- `along` is induction along a run: `I q p` holds of the first question `q` with its part `p`, and
-- lasts from each question to the next; then it holds of every question
along_from : {K P V : Type 0} (m : Instance K P V) (l : ℕ) (I : K → P → Type 0)
    → ((q : K) (p : P) (a : Answer K V) (r : K) (s : P) → I q p → RightRead m l (q, a) → m.advance p a ≡ Ask r s → I r s)
    → (t : Turn K P V) (es : Trace K V) (q : K) (p : P) → ((r : K) (s : P) → t ≡ Ask r s → I r s)
    → Follows m t es (Ask q p) → Each (RightRead m l) es → I q p
unfolding Follows
along_from m l I on t [] q p first f told = first q p f
along_from {K} {P} {V} m l I on t (e ∷ es) q p first f told =
    along_from m l I on (m.advance f.0 e.1) es q p
    (λ r s to. on e.0 f.0 e.1 r s (first e.0 f.0 f.1) (told_pair m l e told.0) to) f.2 told.1
  where
    told_pair : {K P V : Type 0} (m : Instance K P V) (l : ℕ) (e : K × Answer K V) → RightRead m l e → RightRead m l (e.0, e.1)
    told_pair m l (a, b) t = t

pub along : {K P V : Type 0} (m : Instance K P V) (k : K) (I : K → P → Type 0)
    → ((q : K) (p : P) → m.start k ≡ Ask q p → I q p)
    → ((q : K) (p : P) (a : Answer K V) (r : K) (s : P) → I q p → RightRead m (m.level k) (q, a) → m.advance p a ≡ Ask r s → I r s)
    → (q : K) (p : P) → ComesTo m k (Ask q p) → I q p
along m k I first on q p c = along_from m (m.level k) I on (m.start k) c.0 q p first c.1.follows c.1.told

-- `means_at` moves the answer of `k` to its level `l`
pub means_at : {K P V : Type 0} (m : Instance K P V) (l : ℕ) (k : K) (a : Answer K V) → m.level k ≡ l
    → Means m k a → Answers m (Below m l) l k a
unfolding Means
means_at m l k a at h = subst (λ (i : ℕ). Answers m (Below m i) i k a) at h

-- the answer of an input is its value
pub input_means : {K P V : Type 0} (m : Instance K P V) (k : K) (a : Answer K V) → m.level k ≡ 0 → Means m k a → a ≡ Value (m.input k)
unfolding Answers
input_means m k a at means = means_at m 0 k a at means
