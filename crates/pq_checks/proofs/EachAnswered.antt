-- A query that asks only keys of lower levels that have answers, and that lowers what is left with
-- each further question, has an answer for each of its keys.
use Rattle.std.proofs.Common.{◌≡◌, ℕ, zero, suc, ◌<◌, ◌≤◌, [], ◌∷◌, refl, subst, inl, inr, arith}
use Rattle.pq_rules.specs.declared.turn.Turn.{Turn}
use Rattle.pq_rules.specs.declared.turn.Turn.TheVariants.{Ask, Done}
use Rattle.pq_rules.specs.declared.turn.Answer.{Answer}
use Rattle.pq_rules.specs.declared.turn.Answer.TheVariants.{Value}
use Rattle.pq_rules.specs.Turns.{Instance, IsLower}
use Rattle.pq_rules.specs.Relations.{Each}
use Rattle.pq_rules.specs.Value.{Trace, Means}
use Rattle.pq_rules.specs.Embedding.{Runs, Embeds}
use Rattle.pq_rules.proofs.LowerReads.{runs_mean}
use Rattle.pq_rules.proofs.Preserved.{TurnIn}

-- `HasAnswer m level k` is that the key `k` is of a level below `level` and has an answer
abbrev pub HasAnswer : {K P V : Type 0} → Instance K P V → ℕ → K → Type 0
HasAnswer {K} {P} {V} m level k = (m.level k < level) × ((a : Answer K V) × Means m k a)

-- `Asks m level QIn t` is that the turn `t` asks such a key, with a part of the kind `QIn`, or that
-- it is done
abbrev pub Asks : {K P V Q W : Type 0} → Instance K P V → ℕ → (Q → Type 0) → Turn K Q W → Type 0
Asks {W = W} m level QIn t = TurnIn (HasAnswer m level) QIn (λ (w : W). Unit {0}) t

module _ {X K P V Q W : Type 0} (m : Instance K P V) (key : X → K) (part : Q → P) (value : W → V)
    (level : ℕ) (starts : X → Turn K Q W) (advances : Q → Answer K V → Turn K Q W)
    (s : Embeds m key part value level starts advances) (up : 0 < level)
    (lefts : Q → ℕ × ℕ) (falls : (q : Q) (a : Answer K V) (k : K) (r : Q) → advances q a ≡ Ask k r → IsLower (lefts r) (lefts q))
    (QIn : Q → Type 0) (starts_in : (x : X) → Asks m level QIn (starts x))
    (advances_in : (q : Q) (a : Answer K V) → QIn q → Asks m level QIn (advances q a)) where
  -- `Run t` is a run from the turn `t` to a value by right answers of lower levels
  abbrev Run : Turn K Q W → Type 0
  Run t = (es : Trace K V) × (w : W) × Runs advances t es (Done w) × Each (λ e. (m.level e.0 < level) × Means m e.0 e.1) es

  -- a run from each turn that follows the part `q`
  abbrev Goes : Q → Type 0
  Goes q = (a : Answer K V) → Run (advances q a)

  step : (t : Turn K Q W) → Asks m level QIn t → ((k : K) (q : Q) → t ≡ Ask k q → QIn q → Goes q) → Run t
  unfolding Runs
  step (Done w) i on = ([], w, refl, tt)
  step (Ask k q) i on =
      let a = i.0.1.0 in
      let r = on k q refl i.1 a in
      ((k, a) ∷ r.0, r.1, (q, refl, r.2), ((i.0.0, i.0.1.1), r.3))

  inner : (n : ℕ) → ((q : Q) → (lefts q).0 < n → QIn q → Goes q) → (b : ℕ) (q : Q) → (lefts q).0 ≤ n → (lefts q).1 < b → QIn q → Goes q
  inner n on zero q l h i a = absurd (omega arith)
  inner n on (suc b) q l h i a =
      step (advances q a) (advances_in q a i) (λ k r e j. elim (falls q a k r e) [
        | inl f ↦ on r (omega arith) j
        | inr f ↦ let same = f.0 in let less = f.1 in inner n on b r (omega arith) (omega arith) j
      ])

  outer : (n : ℕ) (q : Q) → (lefts q).0 < n → QIn q → Goes q
  outer zero q l i = absurd (omega arith)
  outer (suc n) q l i = inner n (outer n) (suc (lefts q).1) q (omega arith) (omega arith) i

  low : (t : Turn K Q W) → Asks m level QIn t → (es : Trace K V) (k : K) (q : Q) → Runs advances t es (Ask k q) → m.level k < level
  unfolding Runs
  low (Done w) i [] k q r = cc
  low (Ask j p) i [] k q r = let is : j ≡ k = cc in subst (λ x. m.level x < level) is i.0.0
  low (Done w) i (e ∷ es) k q r = let ask = r.1 in cc
  low (Ask j p) i (e ∷ es) k q r =
      let ask = r.1 in
      let is : p ≡ r.0 = cc in
      low (advances r.0 e.1) (advances_in r.0 e.1 (subst QIn is i.1)) es k q r.2

  -- each key of the query has an answer
  pub has_answer : (x : X) → (a : Answer K V) × Means m (key x) a
  has_answer x =
      let r = step (starts x) (starts_in x) (λ k q e i. outer (suc (lefts q).0) q (omega arith) i) in
      (Value (value r.1), runs_mean m key part value level starts advances s up (λ y es k q f. low (starts y) (starts_in y) es k q f) x r.0 r.1 r.2 r.3)
