-- Whether another grammar goes on at the fault of a first, by where its own fault lies.
use Rattle.std.proofs.Common.{◌≡◌, ℕ, ◌<◌, ◌≤◌, Bool, true, List, [], ◌∷◌, ◌++◌, length, Ok, Err, sym, ap, ◌∙◌, subst, arith, length-append, append_assoc}
use Rattle.pq_syntax.specs.Rule.{Rule, Parse, IsSentence, IsFaultPlace, GoesOn}
use Rattle.pq_syntax.specs.aux.Machine.{run}
use Rattle.pq_syntax.specs.aux.LL1.{AreLL1}
use Rattle.pq_syntax.proofs.Place.{whole, stopped}

-- where the second part is shorter, the first is longer
pub longer : {W : Type 0} (before : List W) (w : W) (ws before2 from2 : List W)
    → before ++ w ∷ ws ≡ before2 ++ from2
    → length from2 < length (w ∷ ws)
    → (mid : List W) × (before2 ≡ before ++ w ∷ mid)
longer [] w ws [] from2 e h = let n = ap length e in absurd (omega (arith, n))
longer [] w ws (x ∷ xs) from2 e h = let same : w ≡ x = cc in (xs, ap (λ y. y ∷ xs) (sym same))
longer (a ∷ as') w ws [] from2 e h = let n = ap length e in absurd (omega (arith, n, length-append as' (w ∷ ws)))
longer (a ∷ as') w ws (b ∷ bs) from2 e h =
    let heads : a ≡ b = cc in
    let tails : as' ++ w ∷ ws ≡ bs ++ from2 = cc in
    let s = longer as' w ws bs from2 tails h in
    (s.0, ap (λ l. b ∷ l) s.1 ∙ ap (λ x. x ∷ (as' ++ w ∷ s.0)) (sym heads))

module _ {A W : Type 0} (accepts : A → W → Bool) (samples : (c : A) → (w : W) × (accepts c w ≡ true)) (k : List (Rule A)) (clear : AreLL1 accepts k) (before : List W) (w : W) (ws : List W) where
  pub deeper_whole : (l : List (Parse W)) → run accepts k (before ++ w ∷ ws) ≡ Ok l → GoesOn accepts k before w
  deeper_whole l h = (ws, (l, whole accepts k (before ++ w ∷ ws) l h))

  pub deeper_later : (n : ℕ) → run accepts k (before ++ w ∷ ws) ≡ Err n → n < length (w ∷ ws) → GoesOn accepts k before w
  deeper_later n h lt =
      let s = stopped accepts samples k (before ++ w ∷ ws) n clear h in
      let m = longer before w ws s.0 s.1 s.2 (omega (arith, s.3, lt)) in
      let more = s.4.some in
      (m.0 ++ more.0, subst (IsSentence accepts k) (ap (λ l. l ++ more.0) m.1 ∙ append_assoc before (w ∷ m.0) more.0) more.1)

-- where the second part is no shorter, its first word stands before w or is w
shorter : {W : Type 0} (before : List W) (w : W) (ws rest before2 : List W) (x : W) (xs : List W)
    → before ++ w ∷ ws ≡ before2 ++ x ∷ xs
    → length (w ∷ ws) ≤ length (x ∷ xs)
    → (more : List W) × (before ++ w ∷ rest ≡ before2 ++ x ∷ more)
shorter [] w ws rest [] x xs e h = let same : w ≡ x = cc in (rest, ap (λ y. y ∷ rest) same)
shorter [] w ws rest (b ∷ bs) x xs e h = let n = ap length e in absurd (omega (arith, n, length-append bs (x ∷ xs)))
shorter (a ∷ as') w ws rest [] x xs e h = let same : a ≡ x = cc in (as' ++ w ∷ rest, ap (λ y. y ∷ (as' ++ w ∷ rest)) same)
shorter (a ∷ as') w ws rest (b ∷ bs) x xs e h =
    let heads : a ≡ b = cc in
    let tails : as' ++ w ∷ ws ≡ bs ++ x ∷ xs = cc in
    let s = shorter as' w ws rest bs x xs tails h in
    (s.0, ap (λ y. y ∷ (as' ++ w ∷ rest)) heads ∙ ap (λ l. b ∷ l) s.1)

module _ {A W : Type 0} (accepts : A → W → Bool) (k : List (Rule A)) (before : List W) (w : W) (ws : List W) where
  not_at : (before2 from2 : List W)
      → before ++ w ∷ ws ≡ before2 ++ from2
      → length (w ∷ ws) ≤ length from2
      → IsFaultPlace accepts k before2 from2
      → GoesOn accepts k before w
      → ⊥
  not_at before2 [] e h place on = absurd (omega arith)
  not_at before2 (x ∷ xs) e h place on =
      let s = shorter before w ws on.0 before2 x xs e h in
      place.none s.0 (subst (IsSentence accepts k) s.1 on.1)

  pub deeper_not : (samples : (c : A) → (w : W) × (accepts c w ≡ true))
      → AreLL1 accepts k
      → (n : ℕ)
      → run accepts k (before ++ w ∷ ws) ≡ Err n
      → length (w ∷ ws) ≤ n
      → GoesOn accepts k before w
      → ⊥
  deeper_not samples clear n h le on =
      let s = stopped accepts samples k (before ++ w ∷ ws) n clear h in
      not_at s.0 s.1 s.2 (omega (arith, s.3, le)) s.4 on
