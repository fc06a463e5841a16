-- What the machine takes is derived, and every stack stands for something.
use Rattle.std.proofs.Common.{◌≡◌, suc, Bool, true, false, ◌||◌, List, [], ◌∷◌, length, Some, None, refl, sym, ap, ◌∙◌, subst, inl, inr, arith}
use Rattle.std.proofs.lemmas.Bool.{and_parts, cond-true, cond-false, cases_Bool}
use Rattle.pq_syntax.specs.Rule.{Rule, Parse, Derives}
use Rattle.pq_syntax.specs.Rule.Rule.{Single, Empty, Seq, Alt, Star}
use Rattle.pq_syntax.specs.Rule.Parse.{Leaf, Nil}
use Rattle.pq_syntax.specs.Rule.Derives.{ends, one, empty, both, left, right, stop, more}
use Rattle.pq_syntax.specs.aux.Machine.{nullable, empty_parse, in_first, after, built, paired, lefted, righted, pop, push, all_skip, empty_parses}

-- the second of an "or" whose first is false
or_second : (x y : Bool) → (x || y) ≡ true → x ≡ false → y ≡ true
or_second true y h e = cc
or_second false y h e = h

module _ {A W : Type 0} (accepts : A → W → Bool) where
  -- one reading for each rule
  pub long : {k : List (Rule A)} {ws : List W} {ps : List (Parse W)} → Derives accepts k ws ps → length ps ≡ length k
  long ends = refl
  long (one h d) = ap suc (long d)
  long (empty d) = ap suc (long d)
  long (both d) = let e = long d in omega (arith, e)
  long (left d) = let e = long d in omega (arith, e)
  long (right d) = let e = long d in omega (arith, e)
  long (stop d) = ap suc (long d)
  long (more d) = let e = long d in omega (arith, e)

  both_of : (a b : Rule A) (k : List (Rule A)) (ws : List W) (ps : List (Parse W))
      → Derives accepts (a ∷ b ∷ k) ws ps
      → Derives accepts (Seq a b ∷ k) ws (paired ps)
  both_of a b k ws [] d = let e = long d in absurd (omega (arith, e))
  both_of a b k ws (x ∷ []) d = let e = long d in absurd (omega (arith, e))
  both_of a b k ws (x ∷ y ∷ ps) d = both d

  left_of : (a b : Rule A) (k : List (Rule A)) (ws : List W) (ps : List (Parse W)) → Derives accepts (a ∷ k) ws ps → Derives accepts (Alt a b ∷ k) ws (lefted ps)
  left_of a b k ws [] d = let e = long d in absurd (omega (arith, e))
  left_of a b k ws (x ∷ ps) d = left d

  right_of : (a b : Rule A) (k : List (Rule A)) (ws : List W) (ps : List (Parse W))
      → Derives accepts (b ∷ k) ws ps
      → Derives accepts (Alt a b ∷ k) ws (righted ps)
  right_of a b k ws [] d = let e = long d in absurd (omega (arith, e))
  right_of a b k ws (x ∷ ps) d = right d

  more_of : (r : Rule A) (k : List (Rule A)) (ws : List W) (ps : List (Parse W))
      → Derives accepts (r ∷ Star r ∷ k) ws ps
      → Derives accepts (Star r ∷ k) ws (paired ps)
  more_of r k ws [] d = let e = long d in absurd (omega (arith, e))
  more_of r k ws (x ∷ []) d = let e = long d in absurd (omega (arith, e))
  more_of r k ws (x ∷ y ∷ ps) d = more d

  -- readings may be rewritten
  as_read : {k : List (Rule A)} {ws : List W} {ps qs : List (Parse W)} → ps ≡ qs → Derives accepts k ws ps → Derives accepts k ws qs
  as_read {k} {ws} e d = subst (λ l. Derives accepts k ws l) e d

  or_skips : (a b : Rule A) (k : List (Rule A)) (ws : List W) (ps : List (Parse W))
      → (nullable a ≡ true → Derives accepts (a ∷ k) ws (empty_parse a ∷ ps))
      → (nullable a ≡ false → Derives accepts (b ∷ k) ws (empty_parse b ∷ ps))
      → Derives accepts (Alt a b ∷ k) ws (empty_parse (Alt a b) ∷ ps)
  or_skips a b k ws ps at_a at_b = elim (cases_Bool (nullable a)) [
    | inl e ↦ as_read (ap (λ (p : Parse W). p ∷ ps) (sym (cond-true (nullable a) _ _ e))) (left (at_a e))
    | inr e ↦ as_read (ap (λ (p : Parse W). p ∷ ps) (sym (cond-false (nullable a) _ _ e))) (right (at_b e))
  ]

  -- a rule that may stand for nothing
  skipped : (r : Rule A) (k : List (Rule A)) (ws : List W) (ps : List (Parse W))
      → nullable r ≡ true
      → Derives accepts k ws ps
      → Derives accepts (r ∷ k) ws (empty_parse r ∷ ps)
  skipped (Single c) k ws ps h d = cc
  skipped Empty k ws ps h d = empty d
  skipped (Seq a b) k ws ps h d =
      let p = and_parts (nullable a) (nullable b) h in
      both (skipped a (b ∷ k) ws (empty_parse b ∷ ps) p.0 (skipped b k ws ps p.1 d))
  skipped (Alt a b) k ws ps h d = or_skips a b k ws ps (λ e. skipped a k ws ps e d) (λ e. skipped b k ws ps (or_second _ _ h e) d)
  skipped (Star r) k ws ps h d = stop d

  stepped : (r : Rule A) (k : List (Rule A)) (w : W) (ws : List W) (ps : List (Parse W))
      → in_first accepts r w ≡ true
      → Derives accepts (after accepts r k w) ws ps
      → Derives accepts (r ∷ k) (w ∷ ws) (built accepts r w ps)
  stepped (Single c) k w ws ps h d = one h d
  stepped Empty k w ws ps h d = cc
  stepped (Seq a b) k w ws ps h d =
      elim (cases_Bool (in_first accepts a w)) [
        | inl e ↦
            let d' = stepped a (b ∷ k) w ws ps e (subst (λ s. Derives accepts s ws ps) (cond-true _ _ _ e) d) in
            as_read (sym (cond-true _ _ _ e)) (both_of a b k (w ∷ ws) (built accepts a w ps) d')
        | inr e ↦
            let h2 = and_parts (nullable a) (in_first accepts b w) (or_second _ _ h e) in
            let d' = stepped b k w ws ps h2.1 (subst (λ s. Derives accepts s ws ps) (cond-false _ _ _ e) d) in
            as_read (sym (cond-false _ _ _ e)) (both_of a b k (w ∷ ws) (empty_parse a ∷ built accepts b w ps) (skipped a (b ∷ k) (w ∷ ws) (built accepts b w ps) h2.0 d'))
      ]
  stepped (Alt a b) k w ws ps h d =
      elim (cases_Bool (in_first accepts a w)) [
        | inl e ↦ as_read (sym (cond-true _ _ _ e)) (left_of a b k (w ∷ ws) (built accepts a w ps) (stepped a k w ws ps e (subst (λ s. Derives accepts s ws ps) (cond-true _ _ _ e) d)))
        | inr e ↦ as_read (sym (cond-false _ _ _ e)) (right_of a b k (w ∷ ws) (built accepts b w ps) (stepped b k w ws ps (or_second _ _ h e) (subst (λ s. Derives accepts s ws ps) (cond-false _ _ _ e) d)))
      ]
  stepped (Star r) k w ws ps h d = more_of r k (w ∷ ws) (built accepts r w ps) (stepped r (Star r ∷ k) w ws ps h d)

  pub popped : (k : List (Rule A)) (w : W) (ws : List W) (next : List (Rule A)) (ps : List (Parse W))
      → pop accepts k w ≡ Some next
      → Derives accepts next ws ps
      → Derives accepts k (w ∷ ws) (push accepts k w ps)
  popped [] w ws next ps h d = cc
  popped (r ∷ k) w ws next ps h d =
      elim (cases_Bool (in_first accepts r w)) [
        | inl e ↦
            let is : Some (after accepts r k w) ≡ Some next = sym (cond-true _ _ _ e) ∙ h in
            let same : after accepts r k w ≡ next = cc in
            as_read (sym (cond-true _ _ _ e)) (stepped r k w ws ps e (subst (λ s. Derives accepts s ws ps) (sym same) d))
        | inr e ↦ elim (cases_Bool (nullable r)) [
          | inl f ↦ as_read (sym (cond-false _ _ _ e)) (skipped r k (w ∷ ws) (push accepts k w ps) f (popped k w ws next ps (sym (cond-false _ _ _ e ∙ cond-true _ _ _ f) ∙ h) d))
          | inr f ↦ let no : None ≡ Some next = sym (cond-false _ _ _ e ∙ cond-false _ _ _ f) ∙ h in cc
        ]
      ]

  pub all_skipped : (k : List (Rule A)) → all_skip k ≡ true → Derives accepts k [] (empty_parses k)
  all_skipped [] h = ends
  all_skipped (r ∷ k) h = skipped r k [] (empty_parses k) (and_parts (nullable r) (all_skip k) h).0 (all_skipped k (and_parts (nullable r) (all_skip k) h).1)

  -- each terminal accepts some word
  module _ (samples : (c : A) → (w : W) × (accepts c w ≡ true)) where
    abbrev Words : List (Rule A) → Type 0
    Words k = (ws : List W) × (ps : List (Parse W)) × Derives accepts k ws ps

    filled : (r : Rule A) (k : List (Rule A)) → Words k → Words (r ∷ k)
    filled (Single c) k rest = ((samples c).0 ∷ rest.0, Leaf (samples c).0 ∷ rest.1, one (samples c).1 rest.2)
    filled Empty k rest = (rest.0, Nil ∷ rest.1, empty rest.2)
    filled (Seq a b) k rest = let all = filled a (b ∷ k) (filled b k rest) in (all.0, paired all.1, both_of a b k all.0 all.1 all.2)
    filled (Alt a b) k rest = let all = filled a k rest in (all.0, lefted all.1, left_of a b k all.0 all.1 all.2)
    filled (Star r) k rest = (rest.0, Nil ∷ rest.1, stop rest.2)

    pub some_words : (k : List (Rule A)) → Words k
    some_words [] = ([], [], ends)
    some_words (r ∷ k) = filled r k (some_words k)
