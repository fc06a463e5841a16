-- A query that asks one key of a lower level and ends: its answer is a value, made of that key's
-- answer, whatever that is.
use Rattle.std.proofs.Common.{ℕ, ◌≡◌, ◌<◌, List, [], ◌∷◌, sym, ◌∙◌, ap, subst, arith}
use Rattle.pq_rules.specs.declared.turn.Turn.{Turn}
use Rattle.pq_rules.specs.declared.turn.Turn.TheVariants.{Ask, Done}
use Rattle.pq_rules.specs.declared.turn.Answer.{Answer}
use Rattle.pq_rules.specs.declared.turn.Answer.TheVariants.{Value, Cycle}
use Rattle.pq_rules.specs.Turns.{Instance}
use Rattle.pq_rules.specs.Relations.{Each}
use Rattle.pq_rules.specs.Value.{Trace, Means, RightRead, ComesTo, Waits}
use Rattle.pq_rules.proofs.Characterisation.{cycle_waits, comes_start, comes_on, means_done}
use Rattle.pq_rules.specs.Embedding.{embedded, Runs, Embeds}
use Rattle.pq_rules.proofs.Embedded.{value_runs, asks_runs}

done_one : {K Q W : Type 0} (t : Turn K Q W) (a b : W) → t ≡ Done a → t ≡ Done b → a ≡ b
done_one (Ask k q) a b e f = cc
done_one (Done w) a b e f = cc

module _ {X K P V Q W : Type 0} (m : Instance K P V) (key : X → K) (part : Q → P) (value : W → V)
    (level : ℕ) (starts : X → Turn K Q W) (advances : Q → Answer K V → Turn K Q W)
    (s : Embeds m key part value level starts advances)
    (asked : X → K) (held : X → Q) (made : X → Answer K V → W)
    (asks : (x : X) → starts x ≡ Ask (asked x) (held x)) (ends : (x : X) (a : Answer K V) → advances (held x) a ≡ Done (made x a))
    (lower : (x : X) → m.level (asked x) < level) where
  by_run : (x : X) (es : Trace K V) (w : W) → Runs advances (Ask (asked x) (held x)) es (Done w) → Each (RightRead m level) es
      → (b : Answer K V) × Means m (asked x) b × (w ≡ made x b)
  unfolding Runs
  by_run x [] w r t = cc
  by_run x (e ∷ []) w r t =
      let ask = r.1 in
      let key : asked x ≡ e.0 = cc in
      let hold : r.0 ≡ held x = cc in
      let last : advances (held x) e.1 ≡ Done w = subst (λ (q : Q). advances q e.1 ≡ Done w) hold r.2 in
      let is = done_one (advances (held x) e.1) w (made x e.1) last (ends x e.1) in
      (e.1, subst (λ (k : K). Means m k e.1) (sym key) t.0.means, is)
  by_run x (e ∷ (d ∷ ds)) w r t =
      let ask = r.1 in
      let hold : r.0 ≡ held x = cc in
      let next : advances (held x) e.1 ≡ Ask d.0 r.2.0 = subst (λ (q : Q). advances q e.1 ≡ Ask d.0 r.2.0) hold r.2.1 in
      let both : Done (made x e.1) ≡ Ask d.0 r.2.0 = sym (ends x e.1) ∙ next in
      cc

  by_ask : (x : X) (es : Trace K V) (k : K) (q : Q) → Runs advances (Ask (asked x) (held x)) es (Ask k q) → k ≡ asked x
  unfolding Runs
  by_ask x [] k q r = cc
  by_ask x (e ∷ []) k q r =
      let ask = r.1 in
      let hold : r.0 ≡ held x = cc in
      let last : advances (held x) e.1 ≡ Ask k q = subst (λ (y : Q). advances y e.1 ≡ Ask k q) hold r.2 in
      let both : Done (made x e.1) ≡ Ask k q = sym (ends x e.1) ∙ last in
      cc
  by_ask x (e ∷ (d ∷ ds)) k q r =
      let ask = r.1 in
      let hold : r.0 ≡ held x = cc in
      let next : advances (held x) e.1 ≡ Ask d.0 r.2.0 = subst (λ (y : Q). advances y e.1 ≡ Ask d.0 r.2.0) hold r.2.1 in
      let both : Done (made x e.1) ≡ Ask d.0 r.2.0 = sym (ends x e.1) ∙ next in
      cc

  level_up : (x : X) → 0 < m.level (key x)
  level_up x = let a = lower x in let b = s.level_is x in omega arith

  no_cycle : (x : X) (r : List K) → Means m (key x) (Cycle r) → ⊥
  unfolding Waits
  no_cycle x r h =
      let w = cycle_waits m (key x) r (level_up x) h in
      let run = asks_runs m key part value level starts advances s x w.0 w.1.1.0 w.1.1.1 in
      let is = by_ask x run.0 w.0 run.1 (subst (λ (t : Turn K Q W). Runs advances t run.0 (Ask w.0 run.1)) (asks x) run.2) in
      let same : m.level (asked x) ≡ m.level (key x) = ap m.level (sym is) ∙ w.1.0 in
      let a = lower x in let b = s.level_is x in absurd (omega arith)

  -- the answer of the query's key is made of an answer of the key that it asks
  pub once : (x : X) (a : Answer K V) → Means m (key x) a → (b : Answer K V) × Means m (asked x) b × (a ≡ Value (value (made x b)))
  once x (Value v) h =
      let run = value_runs m key part value level starts advances s x v (let a = lower x in omega arith) h in
      let r = by_run x run.0 run.1 (subst (λ (t : Turn K Q W). Runs advances t run.0 (Done run.1)) (asks x) run.2) run.4 in
      (r.0, r.1, ap (λ (y : V). Value y) (run.3 ∙ ap value r.2))
  once x (Cycle r) h = absurd (no_cycle x r h)

  -- what is made of an answer of the key that it asks is an answer of the query's key
  pub makes_once : (x : X) (b : Answer K V) → Means m (asked x) b → Means m (key x) (Value (value (made x b)))
  makes_once x b h =
      let low = lower x in
      let here = s.level_is x in
      let first : ComesTo m (key x) (Ask (asked x) (part (held x))) =
      subst (λ (t : Turn K Q W). ComesTo m (key x) (embedded part value t)) (asks x) (subst (ComesTo m (key x)) (s.start_is x) (comes_start m (key x))) in
      let read : RightRead m (m.level (key x)) (asked x, b) = record { no_higher = omega arith; means = h; value = λ e. absurd (omega arith) } in
      let on : ComesTo m (key x) (m.advance (part (held x)) b) = comes_on m (key x) (asked x) (part (held x)) b first read in
      let to : ComesTo m (key x) (embedded part value (advances (held x) b)) = subst (ComesTo m (key x)) (s.advance_is (held x) b) on in
      means_done m (key x) (value (made x b)) (level_up x) (subst (λ (t : Turn K Q W). ComesTo m (key x) (embedded part value t)) (ends x b) to)
