-- A query that is embedded in a rule set: a run of the rule set from a key of the query is the
-- query's own run, and back. So what a query asks and ends in is shown once, for every rule set.
use Rattle.std.proofs.Common.{ℕ, ◌≡◌, ◌<◌, [], ◌∷◌, refl, sym, ap, subst}
use Rattle.pq_rules.specs.declared.turn.Turn.{Turn}
use Rattle.pq_rules.specs.declared.turn.Turn.TheVariants.{Ask, Done}
use Rattle.pq_rules.specs.declared.turn.Answer.{Answer}
use Rattle.pq_rules.specs.declared.turn.Answer.TheVariants.{Value}
use Rattle.pq_rules.specs.Turns.{Instance, IsLower}
use Rattle.pq_rules.specs.Relations.{Each}
use Rattle.pq_rules.specs.Value.{Follows, Trace, Means, RightRead, ComesBy, ComesTo}
use Rattle.pq_rules.specs.Embedding.{embedded, Runs, Embeds}
use Rattle.pq_rules.proofs.Characterisation.{done_means}

-- an embedded turn that asks is of a turn that asks, and one that is done of one that is done
pub embedded_asks : {K Q P W V : Type 0} (part : Q → P) (value : W → V) (t : Turn K Q W) (k : K) (p : P)
    → embedded part value t ≡ Ask k p → (q : Q) × (t ≡ Ask k q) × (p ≡ part q)
embedded_asks part value (Ask k q) j p e =
    let key : k ≡ j = cc in let is : p ≡ part q = cc in (q, ap (λ x. Ask x q) key, is)
embedded_asks part value (Done w) j p e = cc

pub embedded_done : {K Q P W V : Type 0} (part : Q → P) (value : W → V) (t : Turn K Q W) (v : V)
    → embedded part value t ≡ Done v → (w : W) × (t ≡ Done w) × (v ≡ value w)
embedded_done part value (Ask k q) v e = cc
embedded_done part value (Done w) v e = let is : v ≡ value w = cc in (w, refl, is)

-- a question of an embedded turn lowers what is left where the query's question does
pub embedded_falls : {K Q P W V : Type 0} (part : Q → P) (value : W → V) (left : P → ℕ × ℕ) (lefts : Q → ℕ × ℕ) (t : Turn K Q W) (n : ℕ × ℕ)
    → ((q : Q) → left (part q) ≡ lefts q) → ((k : K) (q : Q) → t ≡ Ask k q → IsLower (lefts q) n)
    → (k : K) (r : P) → embedded part value t ≡ Ask k r → IsLower (left r) n
embedded_falls {P = P} part value left lefts t n same falls k r e =
    let s = embedded_asks part value t k r e in
    subst (λ (x : P). IsLower (left x) n) (sym s.2) (subst (λ (x : ℕ × ℕ). IsLower x n) (sym (same s.0)) (falls k s.0 s.1))

module _ {X K P V Q W : Type 0} (m : Instance K P V) (key : X → K) (part : Q → P) (value : W → V)
    (level : ℕ) (starts : X → Turn K Q W) (advances : Q → Answer K V → Turn K Q W)
    (s : Embeds m key part value level starts advances) where
  -- a run of the rule set is a run of the query
  pub runs_done : (t : Turn K Q W) (es : Trace K V) (v : V) → Follows m (embedded part value t) es (Done v)
      → (w : W) × Runs advances t es (Done w) × (v ≡ value w)
  unfolding Follows Runs
  runs_done t [] v f = let d = embedded_done part value t v f in (d.0, d.1, d.2)
  runs_done t (e ∷ es) v f =
      let a = embedded_asks part value t e.0 f.0 f.1 in
      let on : Follows m (m.advance (part a.0) e.1) es (Done v) = subst (λ (p : P). Follows m (m.advance p e.1) es (Done v)) a.2 f.2 in
      let to : Follows m (embedded part value (advances a.0 e.1)) es (Done v) = subst (λ (u : Turn K P V). Follows m u es (Done v)) (s.advance_is a.0 e.1) on in
      let r = runs_done (advances a.0 e.1) es v to in
      (r.0, (a.0, a.1, r.1), r.2)

  pub runs_ask : (t : Turn K Q W) (es : Trace K V) (k : K) (p : P) → Follows m (embedded part value t) es (Ask k p)
      → (q : Q) × Runs advances t es (Ask k q) × (p ≡ part q)
  unfolding Follows Runs
  runs_ask t [] k p f = let d = embedded_asks part value t k p f in (d.0, d.1, d.2)
  runs_ask t (e ∷ es) k p f =
      let a = embedded_asks part value t e.0 f.0 f.1 in
      let on : Follows m (m.advance (part a.0) e.1) es (Ask k p) = subst (λ (p' : P). Follows m (m.advance p' e.1) es (Ask k p)) a.2 f.2 in
      let to : Follows m (embedded part value (advances a.0 e.1)) es (Ask k p) = subst (λ (u : Turn K P V). Follows m u es (Ask k p)) (s.advance_is a.0 e.1) on in
      let r = runs_ask (advances a.0 e.1) es k p to in
      (r.0, (a.0, a.1, r.1), r.2)

  -- a run of the query is a run of the rule set
  pub follows_runs : (t : Turn K Q W) (es : Trace K V) (u : Turn K Q W) → Runs advances t es u → Follows m (embedded part value t) es (embedded part value u)
  unfolding Follows Runs
  follows_runs t [] u r = ap (embedded part value) r
  follows_runs t (e ∷ es) u r = (
    part r.0,
    ap (embedded part value) r.1,
    subst (λ (x : Turn K P V). Follows m x es (embedded part value u)) (sym (s.advance_is r.0 e.1)) (follows_runs (advances r.0 e.1) es u r.2),
  )

  -- a run from a key of the query that ends in a value is a run of the query by right reads
  pub done_runs : (x : X) (es : Trace K V) (v : V) → ComesBy m (key x) es (Done v)
      → (w : W) × Runs advances (starts x) es (Done w) × (v ≡ value w) × Each (RightRead m level) es
  done_runs x es v c =
      let f : Follows m (embedded part value (starts x)) es (Done v) = subst (λ (u : Turn K P V). Follows m u es (Done v)) (s.start_is x) c.follows in
      let r = runs_done (starts x) es v f in
      (r.0, r.1, r.2, subst (λ (i : ℕ). Each (RightRead m i) es) (s.level_is x) c.told)

  -- each value of a key of the query comes of a run of the query by right reads
  pub value_runs : (x : X) (v : V) → 0 < level → Means m (key x) (Value v)
      → (es : Trace K V) × (w : W) × Runs advances (starts x) es (Done w) × (v ≡ value w) × Each (RightRead m level) es
  value_runs x v up h =
      let c = done_means m (key x) v (subst (λ (i : ℕ). 0 < i) (sym (s.level_is x)) up) h in
      let r = done_runs x c.0 v c.1 in
      (c.0, r.0, r.1, r.2, r.3)

  -- each question of a key of the query comes of a run of the query by right reads
  pub asks_runs : (x : X) (k : K) (p : P) → ComesTo m (key x) (Ask k p)
      → (es : Trace K V) × (q : Q) × Runs advances (starts x) es (Ask k q) × (p ≡ part q) × Each (RightRead m level) es
  asks_runs x k p c =
      let f : Follows m (embedded part value (starts x)) c.0 (Ask k p) = subst (λ (u : Turn K P V). Follows m u c.0 (Ask k p)) (s.start_is x) c.1.follows in
      let r = runs_ask (starts x) c.0 k p f in
      (c.0, r.0, r.1, r.2, subst (λ (i : ℕ). Each (RightRead m i) c.0) (s.level_is x) c.1.told)

  -- a run of the query by right reads is one of its key
  pub runs_come : (x : X) (es : Trace K V) (u : Turn K Q W) → Runs advances (starts x) es u → Each (RightRead m level) es
      → ComesTo m (key x) (embedded part value u)
  runs_come x es u r reads = (
    es,
    record {
      follows = subst (λ (t : Turn K P V). Follows m t es (embedded part value u)) (sym (s.start_is x)) (follows_runs (starts x) es u r);
      told = subst (λ (i : ℕ). Each (RightRead m i) es) (sym (s.level_is x)) reads;
    },
  )
