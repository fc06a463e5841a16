-- Runs of a query by its next turn: one that asks, and one that is done.
use Rattle.std.proofs.Common.{◌≡◌, List, [], ◌∷◌, refl, ap, subst, ◌∙◌}
use Rattle.pq_rules.specs.declared.turn.Turn.{Turn}
use Rattle.pq_rules.specs.declared.turn.Turn.TheVariants.{Ask, Done}
use Rattle.pq_rules.specs.Embedding.{Runs}

module _ {K A Q W : Type 0} (advances : Q → A → Turn K Q W) where
  -- the run of a turn that asks: its first question, and the run of the rest
  pub asked : (key : K) (part : Q) (es : List (K × A)) (v : W) → Runs advances (Ask key part) es (Done v)
      → (a : A) × (rest : List (K × A)) × (es ≡ (key, a) ∷ rest) × Runs advances (advances part a) rest (Done v)
  unfolding Runs
  asked key part [] v r = cc
  asked key part (e ∷ es) v r =
      let asks = r.1 in
      let key_is : e.0 ≡ key = cc in
      let part_is : r.0 ≡ part = cc in
      (e.1, es, ap (λ (k : K). (k, e.1) ∷ es) key_is, subst (λ (q : Q). Runs advances (advances q e.1) es (Done v)) part_is r.2)

  -- the run of a turn that is done asks nothing
  pub ended : (x v : W) (es : List (K × A)) → Runs advances (Done x) es (Done v) → (es ≡ []) × (v ≡ x)
  unfolding Runs
  ended x v [] r = let is : v ≡ x = cc in (refl, is)
  ended x v (e ∷ es) r = let none = r.1 in cc

  -- the run of a turn that asks once
  pub asked_last : (key : K) (part : Q) (x : A → W) (es : List (K × A)) (v : W) → ((a : A) → advances part a ≡ Done (x a))
      → Runs advances (Ask key part) es (Done v) → (a : A) × (es ≡ (key, a) ∷ []) × (v ≡ x a)
  asked_last key part x es v ends r =
      let o = asked key part es v r in
      let e = ended (x o.0) v o.1 (subst (λ (t : Turn K Q W). Runs advances t o.1 (Done v)) (ends o.0) o.3) in
      (o.0, o.2 ∙ ap (λ (rest : List (K × A)). (key, o.0) ∷ rest) e.0, e.1)
