-- Where the machine stops is the fault place, and what it reads is what is derived.
use Rattle.std.proofs.Common.{◌≡◌, ℕ, Bool, true, List, [], ◌∷◌, ◌++◌, length, Option, Some, None, Result, Ok, Err, refl, sym, ap, ◌∙◌, subst, inl, inr}
use Rattle.std.proofs.lemmas.Bool.{cond-true, cond-false, cases_Bool, both_ways}
use Rattle.pq_syntax.specs.Rule.{Rule, Parse, Derives, IsSentence, HasNoContinuation, IsFaultPlace}
use Rattle.pq_syntax.specs.aux.Machine.{pop, push, all_skip, empty_parses, on_ok, run}
use Rattle.pq_syntax.specs.aux.LL1.{AreLL1}
use Rattle.pq_syntax.proofs.Sound.{popped, all_skipped, some_words}
use Rattle.pq_syntax.proofs.Complete.{step, pop_clear, ended}

module _ {A W : Type 0} (accepts : A → W → Bool) where
  -- what the machine does with a word
  abbrev From : List (Rule A) → W → List W → Option (List (Rule A)) → Result (List (Parse W)) ℕ
  From k w ws p = elim p as (λ _. Result (List (Parse W)) ℕ) [ None ↦ Err (length (w ∷ ws)) | Some k' ↦ on_ok (push accepts k w) (run accepts k' ws) ]

  on_ok_is : {X Y : Type 0} (f : X → Y) (r : Result X ℕ) (y : Y) → on_ok f r ≡ Ok y → (x : X) × (r ≡ Ok x) × (y ≡ f x)
  on_ok_is f (Ok x) y h = (x, refl, cc)
  on_ok_is f (Err n) y h = cc

  on_err_is : {X Y : Type 0} (f : X → Y) (r : Result X ℕ) (n : ℕ) → on_ok f r ≡ Err n → r ≡ Err n
  on_err_is f (Ok x) n h = cc
  on_err_is f (Err m) n h = cc

  whole_next : (k : List (Rule A)) (w : W) (ws : List W) (l : List (Parse W)) (p : Option (List (Rule A)))
      → pop accepts k w ≡ p
      → ((next : List (Rule A)) (ps : List (Parse W)) → run accepts next ws ≡ Ok ps → Derives accepts next ws ps)
      → From k w ws p ≡ Ok l
      → Derives accepts k (w ∷ ws) l
  whole_next k w ws l None e goes h = cc
  whole_next k w ws l (Some next) e goes h =
      let s = on_ok_is (push accepts k w) (run accepts next ws) l h in
      subst (λ q. Derives accepts k (w ∷ ws) q) (sym s.2) (popped accepts k w ws next s.0 e (goes next s.0 s.1))

  -- what the machine reads is derived
  pub whole : (k : List (Rule A)) (ws : List W) (l : List (Parse W)) → run accepts k ws ≡ Ok l → Derives accepts k ws l
  unfolding run
  whole k [] l h = elim (cases_Bool (all_skip k)) [
    | inl e ↦
        let is : ◌≡◌ {A = Result (List (Parse W)) ℕ} (Ok (empty_parses k)) (Ok l) = sym (cond-true _ _ _ e) ∙ h in
        let same : empty_parses k ≡ l = cc in
        subst (λ q. Derives accepts k [] q) same (all_skipped accepts k e)
    | inr e ↦ let no : ◌≡◌ {A = Result (List (Parse W)) ℕ} (Err 0) (Ok l) = sym (cond-false _ _ _ e) ∙ h in cc
  ]
  whole k (w ∷ ws) l h = whole_next k w ws l (pop accepts k w) refl (λ next ps. whole next ws ps) h

  -- what is derived, the machine reads so, where no choice is open
  pub read : (k : List (Rule A)) (ws : List W) (l : List (Parse W)) → AreLL1 accepts k → Derives accepts k ws l → run accepts k ws ≡ Ok l
  unfolding run
  read k [] l ok d = let s = ended accepts k l ok d in cond-true _ _ _ s.0 ∙ ap (λ (q : List (Parse W)). Ok q) (sym s.1)
  read k (w ∷ ws) l ok d =
      let s = step accepts k w ws l ok d in
      ap (From k w ws) s.1 ∙ ap (on_ok (push accepts k w)) (read s.0 ws s.2 (pop_clear accepts k w s.0 ok s.1) s.3) ∙ ap (λ (q : List (Parse W)). Ok q) (sym s.4)

  back : (k : List (Rule A)) (w : W) (ws : List W) (next : List (Rule A))
      → AreLL1 accepts k
      → pop accepts k w ≡ Some next
      → IsSentence accepts k (w ∷ ws)
      → IsSentence accepts next ws
  back k w ws next ok e d =
      let s = step accepts k w ws d.0 ok d.1 in
      let is : Some s.0 ≡ Some next = sym s.1 ∙ e in
      let same : s.0 ≡ next = cc in
      (s.2, subst (λ q. Derives accepts q ws s.2) same s.3)

  back_stuck : (k : List (Rule A)) (w : W) (next : List (Rule A)) (before from : List W)
      → AreLL1 accepts k
      → pop accepts k w ≡ Some next
      → HasNoContinuation accepts next before from
      → HasNoContinuation accepts k (w ∷ before) from
  back_stuck k w next before [] ok e h = λ d. h (back k w before next ok e d)
  back_stuck k w next before (x ∷ xs) ok e h = λ rest d. h rest (back k w (before ++ x ∷ rest) next ok e d)

  abbrev pub Stops : List (Rule A) → List W → ℕ → Type 0
  Stops k ws n = (before : List W) × (from : List W) × (ws ≡ before ++ from) × (length from ≡ n) × IsFaultPlace accepts k before from

  module _ (samples : (c : A) → (w : W) × (accepts c w ≡ true)) where
    begun_here : (k : List (Rule A)) → (rest : List W) × IsSentence accepts k rest
    begun_here k = let s = some_words accepts samples k in (s.0, (s.1, s.2))

    stopped_next : (k : List (Rule A)) (w : W) (ws : List W) (n : ℕ)
        → AreLL1 accepts k
        → (p : Option (List (Rule A)))
        → pop accepts k w ≡ p
        → ((next : List (Rule A)) → AreLL1 accepts next → run accepts next ws ≡ Err n → Stops next ws n)
        → From k w ws p ≡ Err n
        → Stops k (w ∷ ws) n
    stopped_next k w ws n ok None e goes h =
        ([], w ∷ ws, refl, cc, record { some = begun_here k; none = λ rest d. let s = step accepts k w rest d.0 ok d.1 in let no : Some s.0 ≡ None = sym s.1 ∙ e in cc })
    stopped_next k w ws n ok (Some next) e goes h =
        let s = goes next (pop_clear accepts k w next ok e) (on_err_is (push accepts k w) (run accepts next ws) n h) in
        let more = s.4.some in (
          w ∷ s.0,
          s.1,
          ap (λ l. w ∷ l) s.2,
          s.3,
          record {
            some = (more.0, (push accepts k w more.1.0, popped accepts k w (s.0 ++ more.0) next more.1.0 e more.1.1));
            none = back_stuck k w next s.0 s.1 ok e s.4.none;
          },
        )

    pub stopped : (k : List (Rule A)) (ws : List W) (n : ℕ) → AreLL1 accepts k → run accepts k ws ≡ Err n → Stops k ws n
    unfolding run
    stopped k [] n ok h = elim (cases_Bool (all_skip k)) [
      | inl e ↦ let no : ◌≡◌ {A = Result (List (Parse W)) ℕ} (Ok (empty_parses k)) (Err n) = sym (cond-true _ _ _ e) ∙ h in cc
      | inr e ↦
          let is : ◌≡◌ {A = Result (List (Parse W)) ℕ} (Err 0) (Err n) = sym (cond-false _ _ _ e) ∙ h in
          ([], [], refl, cc, record { some = begun_here k; none = λ d. both_ways _ e (ended accepts k d.0 ok d.1).0 })
    ]
    stopped k (w ∷ ws) n ok h = stopped_next k w ws n ok (pop accepts k w) refl (λ next. stopped next ws n) h
