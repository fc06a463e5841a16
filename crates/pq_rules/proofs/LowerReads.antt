-- A query that asks keys of lower levels alone: its answer is the value in which its rule ends by
-- their answers, whatever these are.
use Rattle.std.proofs.Common.{ℕ, ◌≡◌, ◌<◌, List, [], ◌∷◌, sym, ap, subst, arith}
use Rattle.pq_rules.specs.declared.turn.Turn.{Turn}
use Rattle.pq_rules.specs.declared.turn.Turn.TheVariants.{Ask, Done}
use Rattle.pq_rules.specs.declared.turn.Answer.{Answer}
use Rattle.pq_rules.specs.declared.turn.Answer.TheVariants.{Value, Cycle}
use Rattle.pq_rules.specs.Turns.{Instance}
use Rattle.pq_rules.specs.Relations.{Each}
use Rattle.pq_rules.specs.Value.{Trace, Means, RightRead, Waits}
use Rattle.pq_rules.proofs.Characterisation.{cycle_waits, means_done}
use Rattle.pq_rules.specs.Embedding.{Runs, Embeds}
use Rattle.pq_rules.proofs.Embedded.{value_runs, asks_runs, runs_come}

-- `AsksBelow m level t` is that the turn `t` asks a key of a level below `level`, or that it is done
abbrev pub AsksBelow : {K P V Q W : Type 0} → Instance K P V → ℕ → Turn K Q W → Type 0
AsksBelow {K} {Q = Q} m level t = (k : K) (q : Q) → t ≡ Ask k q → m.level k < level

pub ask_below : {K P V Q W : Type 0} (m : Instance K P V) (level : ℕ) (j : K) (p : Q) → m.level j < level → AsksBelow {W = W} m level (Ask j p)
ask_below {K} m level j p l k q e = let key : j ≡ k = cc in subst (λ (x : K). m.level x < level) key l

pub done_below : {K P V Q W : Type 0} (m : Instance K P V) (level : ℕ) (w : W) → AsksBelow {Q = Q} m level (Done w)
done_below m level w k q e = cc

-- a run whose turns ask such keys alone asks such keys
pub runs_below : {K P V Q W : Type 0} (m : Instance K P V) (level : ℕ) (advances : Q → Answer K V → Turn K Q W)
    → ((q : Q) (a : Answer K V) → AsksBelow m level (advances q a)) → (t : Turn K Q W) → AsksBelow m level t
    → (es : Trace K V) (k : K) (q : Q) → Runs advances t es (Ask k q) → m.level k < level
unfolding Runs
runs_below m level advances low t l [] k q r = l k q r
runs_below m level advances low t l (e ∷ es) k q r = runs_below m level advances low (advances r.0 e.1) (low r.0 e.1) es k q r.2

module _ {X K P V Q W : Type 0} (m : Instance K P V) (key : X → K) (part : Q → P) (value : W → V)
    (level : ℕ) (starts : X → Turn K Q W) (advances : Q → Answer K V → Turn K Q W)
    (s : Embeds m key part value level starts advances) (up : 0 < level)
    (lower : (x : X) (es : Trace K V) (k : K) (q : Q) → Runs advances (starts x) es (Ask k q) → m.level k < level) where
  answers_mean : (l : ℕ) (es : Trace K V) → Each (RightRead m l) es → Each (λ e. Means m e.0 e.1) es
  answers_mean l [] t = tt
  answers_mean l (e ∷ es) t = (t.0.means, answers_mean l es t.1)

  answers_read : (es : Trace K V) → Each (λ e. (m.level e.0 < level) × Means m e.0 e.1) es → Each (RightRead m level) es
  answers_read [] t = tt
  answers_read (e ∷ es) t =
      let low = t.0.0 in
      (record { no_higher = omega arith; means = t.0.1; value = λ at. absurd (omega arith) }, answers_read es t.1)

  level_up : (x : X) → 0 < m.level (key x)
  level_up x = subst (λ (i : ℕ). 0 < i) (sym (s.level_is x)) up

  no_cycle : (x : X) (r : List K) → Means m (key x) (Cycle r) → ⊥
  unfolding Waits
  no_cycle x r h =
      let w = cycle_waits m (key x) r (level_up x) h in
      let run = asks_runs m key part value level starts advances s x w.0 w.1.1.0 w.1.1.1 in
      let low = lower x run.0 w.0 run.1 run.2 in
      let same = w.1.0 in let here = s.level_is x in absurd (omega arith)

  -- an answer of the query's key comes of a run of the query by right answers
  pub lower_runs : (x : X) (a : Answer K V) → Means m (key x) a
      → (es : Trace K V) × (w : W) × Runs advances (starts x) es (Done w) × (a ≡ Value (value w)) × Each (λ e. Means m e.0 e.1) es
  lower_runs x (Value v) h =
      let r = value_runs m key part value level starts advances s x v up h in
      (r.0, r.1, r.2, ap (λ (y : V). Value y) r.3, answers_mean level r.0 r.4)
  lower_runs x (Cycle r) h = absurd (no_cycle x r h)

  -- the value of a run of the query by right answers of lower levels is an answer of its key
  pub runs_mean : (x : X) (es : Trace K V) (w : W) → Runs advances (starts x) es (Done w)
      → Each (λ e. (m.level e.0 < level) × Means m e.0 e.1) es → Means m (key x) (Value (value w))
  runs_mean x es w r t =
      means_done m (key x) (value w) (level_up x) (runs_come m key part value level starts advances s x es (Done w) r (answers_read es t))
