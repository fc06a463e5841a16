-- Kinds of keys, parts and values that a rule set preserves: each rule that starts at a key of the
-- kind and reads answers of the kind asks and ends only in the kind.
--
-- Then all that the evaluation of a key of the kind asks, and all its answers, are of the kind. The
-- laws `no_higher` and `stays` of a rule set follow: one kind is the keys up to a level, the other
-- the keys of a finite list.
use Rattle.std.proofs.Common.{ℕ, ◌≡◌, [], ◌∷◌, subst}
use Rattle.pq_rules.specs.declared.turn.Turn.{Turn}
use Rattle.pq_rules.specs.declared.turn.Turn.TheVariants.{Ask, Done}
use Rattle.pq_rules.specs.declared.turn.Answer.{Answer}
use Rattle.pq_rules.specs.declared.turn.Answer.TheVariants.{Value, Cycle}
use Rattle.pq_rules.specs.Turns.{Instance}
use Rattle.pq_rules.specs.Relations.{Each}
use Rattle.pq_rules.specs.Value.{Follows, Trace, Means, RightRead, ComesTo}
use Rattle.pq_rules.specs.Embedding.{embedded}
use Rattle.pq_rules.proofs.Induction.{means_fits}

-- `TurnIn KeyIn PartIn ValueIn t` is that the key and the part of the turn `t` are of the kind, or
-- its value is
abbrev pub TurnIn : {K P V : Type 0} → (K → Type 0) → (P → Type 0) → (V → Type 0) → Turn K P V → Type 0
TurnIn KeyIn PartIn ValueIn (Ask k p) = KeyIn k × PartIn p
TurnIn KeyIn PartIn ValueIn (Done v) = ValueIn v

-- `AnswerIn ValueIn a` is that the answer `a` is a cycle, or a value of the kind
abbrev pub AnswerIn : {K V : Type 0} → (V → Type 0) → Answer K V → Type 0
AnswerIn ValueIn (Value v) = ValueIn v
AnswerIn ValueIn (Cycle ring) = Unit {0}

-- `Preserves m KeyIn PartIn ValueIn` is that the rule set `m` preserves the kind
pub record Preserves {K P V : Type 0} (m : Instance K P V) (KeyIn : K → Type 0) (PartIn : P → Type 0) (ValueIn : V → Type 0) : Type 0 where
  pub inputs : (k : K) → m.level k ≡ 0 → KeyIn k → ValueIn (m.input k)
  pub starts : (k : K) → KeyIn k → TurnIn KeyIn PartIn ValueIn (m.start k)
  pub advances : (p : P) (a : Answer K V) → PartIn p → AnswerIn ValueIn a → TurnIn KeyIn PartIn ValueIn (m.advance p a)

-- an embedded turn is of the kind where the query's turn is
pub embedded_in : {K Q P W V : Type 0} (KeyIn : K → Type 0) (QIn : Q → Type 0) (WIn : W → Type 0) (PartIn : P → Type 0) (ValueIn : V → Type 0)
    (part : Q → P) (value : W → V) → ((q : Q) → QIn q → PartIn (part q)) → ((w : W) → WIn w → ValueIn (value w))
    → (t : Turn K Q W) → TurnIn KeyIn QIn WIn t → TurnIn KeyIn PartIn ValueIn (embedded part value t)
embedded_in KeyIn QIn WIn PartIn ValueIn part value f h (Ask k q) i = (i.0, f q i.1)
embedded_in KeyIn QIn WIn PartIn ValueIn part value f h (Done w) i = h w i

module _ {K P V : Type 0} (m : Instance K P V) (KeyIn : K → Type 0) (PartIn : P → Type 0) (ValueIn : V → Type 0)
    (preserves : Preserves m KeyIn PartIn ValueIn) where
  -- a run by answers of the kind comes only to turns of the kind
  run_in : (t : Turn K P V) (es : Trace K V) (u : Turn K P V) → TurnIn KeyIn PartIn ValueIn t → Follows m t es u
      → Each (λ e. KeyIn e.0 → AnswerIn ValueIn e.1) es → TurnIn KeyIn PartIn ValueIn u
  unfolding Follows
  run_in t [] u i f reads = subst (TurnIn KeyIn PartIn ValueIn) f i
  run_in t (e ∷ es) u i f reads =
      let here : KeyIn e.0 × PartIn f.0 = subst (TurnIn KeyIn PartIn ValueIn) f.1 i in
      run_in (m.advance f.0 e.1) es u (preserves.advances f.0 e.1 here.1 (reads.0 here.0)) f.2 reads.1

  -- each answer of a key of the kind is of the kind
  pub answers_in : (k : K) (a : Answer K V) → Means m k a → KeyIn k → AnswerIn ValueIn a
  answers_in = means_fits m (λ k a. KeyIn k → AnswerIn ValueIn a)
      (λ k at i. preserves.inputs k at i)
      (λ k v es c reads i. run_in (m.start k) es (Done v) (preserves.starts k i) c.follows reads)
      (λ k r h i. tt)

  reads_in : (l : ℕ) (es : Trace K V) → Each (RightRead m l) es → Each (λ e. KeyIn e.0 → AnswerIn ValueIn e.1) es
  reads_in l [] reads = tt
  reads_in l (e ∷ es) reads = (λ i. answers_in e.0 e.1 reads.0.means i, reads_in l es reads.1)

  -- each key that a key of the kind asks is of the kind
  pub asked_in : (k q : K) (p : P) → KeyIn k → ComesTo m k (Ask q p) → KeyIn q
  asked_in k q p i c = (run_in (m.start k) c.0 (Ask q p) (preserves.starts k i) c.1.follows (reads_in (m.level k) c.0 c.1.told)).0
