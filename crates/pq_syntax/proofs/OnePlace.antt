-- The fault place of words is one, and words that are a sentence have none.
use Rattle.std.proofs.Common.{◌≡◌, inl, inr, ℕ, ◌<◌, Bool, true, List, [], ◌∷◌, ◌++◌, length, Result, Ok, Err, refl, sym, ap, ◌∙◌, subst, arith, append_assoc}
use Rattle.std.proofs.lemmas.Bool.{cases_order}
use Rattle.std.proofs.lemmas.List.{append-nil}
use Rattle.pq_syntax.specs.Rule.{Rule, Parse, IsSentence, IsFaultPlace}
use Rattle.pq_syntax.specs.aux.Machine.{run}
use Rattle.pq_syntax.specs.aux.LL1.{AreLL1}
use Rattle.pq_syntax.proofs.Place.{whole, stopped}
use Rattle.pq_syntax.proofs.Deeper.{longer}

module _ {A W : Type 0} (accepts : A → W → Bool) (k : List (Rule A)) where
  -- no error place comes before another
  not_ahead : (b1 f1 b2 f2 : List W) → b1 ++ f1 ≡ b2 ++ f2 → length f2 < length f1 → IsFaultPlace accepts k b1 f1 → IsFaultPlace accepts k b2 f2 → ⊥
  not_ahead b1 [] b2 f2 e h p q = absurd (omega (arith, h))
  not_ahead b1 (w ∷ ws) b2 f2 e h p q =
      let m = longer b1 w ws b2 f2 e h in
      let more = q.some in
      p.none (m.0 ++ more.0) (subst (IsSentence accepts k) (ap (λ l. l ++ more.0) m.1 ∙ append_assoc b1 (w ∷ m.0) more.0) more.1)

  -- words that are a sentence have no fault place
  no_place : (before from : List W) → IsFaultPlace accepts k before from → IsSentence accepts k (before ++ from) → ⊥
  no_place before [] p s = p.none (subst (IsSentence accepts k) (append-nil before) s)
  no_place before (w ∷ ws) p s = p.none ws s

  same_length : (b1 f1 b2 f2 : List W) → b1 ++ f1 ≡ b2 ++ f2 → IsFaultPlace accepts k b1 f1 → IsFaultPlace accepts k b2 f2 → length f1 ≡ length f2
  same_length b1 f1 b2 f2 e p q = elim (cases_order (length f1) (length f2)) [
    | inl same ↦ same
    | inr h ↦ elim h [ inl less ↦ absurd (not_ahead b2 f2 b1 f1 (sym e) less q p) | inr more ↦ absurd (not_ahead b1 f1 b2 f2 e more p q) ]
  ]

  -- so the machine stops at the fault place
  pub run_stops : (samples : (c : A) → (w : W) × (accepts c w ≡ true))
      → AreLL1 accepts k
      → (before from : List W)
      → IsFaultPlace accepts k before from
      → run accepts k (before ++ from) ≡ Err (length from)
  run_stops samples clear before from p = by_result (run accepts k (before ++ from)) refl
    where
      by_result : (r : Result (List (Parse W)) ℕ) → run accepts k (before ++ from) ≡ r → r ≡ Err (length from)
      by_result (Ok l) h = absurd (no_place before from p (l, whole accepts k (before ++ from) l h))
      by_result (Err n) h =
          let s = stopped accepts samples k (before ++ from) n clear h in
          ap (λ m. Err m) (sym s.3 ∙ sym (same_length before from s.0 s.1 s.2 p s.4))
