-- What is derived, the machine takes, where no choice is open.
use Rattle.std.proofs.Common.{◌≡◌, ◌⊎◌, Bool, true, false, ◌&&◌, ◌||◌, List, [], ◌∷◌, Some, None, refl, sym, ap, ◌∙◌, subst, inl, inr}
use Rattle.std.proofs.lemmas.Bool.{and_from, or_from, and_right, or_left, or_right, cond-true, cond-false, cases_Bool, both_ways, false_from_ne_true}
use Rattle.pq_syntax.specs.Rule.{Rule, Parse, Derives}
use Rattle.pq_syntax.specs.Rule.Rule.{Single, Empty, Seq, Alt, Star}
use Rattle.pq_syntax.specs.Rule.Parse.{Leaf, Nil}
use Rattle.pq_syntax.specs.Rule.Derives.{ends, one, empty, both, left, right, stop, more}
use Rattle.pq_syntax.specs.aux.Machine.{nullable, empty_parse, in_first, after, built, paired, lefted, righted, pop, push, all_skip, empty_parses}
use Rattle.pq_syntax.specs.aux.LL1.{begins, IsLL1, AreLL1}

regroup : (x p y q z : Bool) → x || (p && (y || (q && z))) ≡ true → (x || (p && y)) || ((p && q) && z) ≡ true
regroup true p y q z h = refl
regroup false true true q z h = refl
regroup false true false q z h = h
regroup false false y q z h = h

choose_left : (x y p q z : Bool) → x || (p && z) ≡ true → (x || y) || ((p || q) && z) ≡ true
choose_left true y p q z h = refl
choose_left false true p q z h = refl
choose_left false false true q z h = h
choose_left false false false q z h = cc

choose_right : (x y p q z : Bool) → y || (q && z) ≡ true → (x || y) || ((p || q) && z) ≡ true
choose_right true y p q z h = refl
choose_right false true p q z h = refl
choose_right false false true true z h = h
choose_right false false true false z h = cc
choose_right false false false q z h = h

again : (x p z : Bool) → x || (p && (x || z)) ≡ true → x || z ≡ true
again true p z h = refl
again false true z h = h
again false false z h = cc

not_with : (p q : Bool) → p && q ≡ false → q ≡ true → p ≡ false
not_with true true h e = cc
not_with true false h e = cc
not_with false q h e = refl

module _ {A W : Type 0} (accepts : A → W → Bool) where
  abbrev BeginsWith : List (Rule A) → List W → Type 0
  BeginsWith k [] = Unit {0}
  BeginsWith k (w ∷ ws) = begins accepts k w ≡ true

  begun_one : (c : A) (k : List (Rule A)) (w : W) (ws : List W) → accepts c w ≡ true → BeginsWith (Single c ∷ k) (w ∷ ws)
  begun_one c k w ws h = or_left _ _ h

  begun_both : (a b : Rule A) (k : List (Rule A)) (ws : List W) → BeginsWith (a ∷ b ∷ k) ws → BeginsWith (Seq a b ∷ k) ws
  begun_both a b k [] h = tt
  begun_both a b k (w ∷ ws) h = regroup (in_first accepts a w) (nullable a) (in_first accepts b w) (nullable b) (begins accepts k w) h

  begun_left : (a b : Rule A) (k : List (Rule A)) (ws : List W) → BeginsWith (a ∷ k) ws → BeginsWith (Alt a b ∷ k) ws
  begun_left a b k [] h = tt
  begun_left a b k (w ∷ ws) h = choose_left (in_first accepts a w) (in_first accepts b w) (nullable a) (nullable b) (begins accepts k w) h

  begun_right : (a b : Rule A) (k : List (Rule A)) (ws : List W) → BeginsWith (b ∷ k) ws → BeginsWith (Alt a b ∷ k) ws
  begun_right a b k [] h = tt
  begun_right a b k (w ∷ ws) h = choose_right (in_first accepts a w) (in_first accepts b w) (nullable a) (nullable b) (begins accepts k w) h

  begun_stop : (r : Rule A) (k : List (Rule A)) (ws : List W) → BeginsWith k ws → BeginsWith (Star r ∷ k) ws
  begun_stop r k [] h = tt
  begun_stop r k (w ∷ ws) h = or_right _ _ h

  begun_more : (r : Rule A) (k : List (Rule A)) (ws : List W) → BeginsWith (r ∷ Star r ∷ k) ws → BeginsWith (Star r ∷ k) ws
  begun_more r k [] h = tt
  begun_more r k (w ∷ ws) h = again (in_first accepts r w) (nullable r) (begins accepts k w) h

  begun_empty : (k : List (Rule A)) (ws : List W) → BeginsWith k ws → BeginsWith (Empty ∷ k) ws
  begun_empty k [] h = tt
  begun_empty k (w ∷ ws) h = h

  begun : {k : List (Rule A)} {ws : List W} {ps : List (Parse W)} → Derives accepts k ws ps → BeginsWith k ws
  begun ends = tt
  begun (one {c = c} {k = k} {w = w} {ws = ws} h d) = begun_one c k w ws h
  begun (empty {k = k} {ws = ws} d) = begun_empty k ws (begun d)
  begun (both {a = a} {b = b} {k = k} {ws = ws} d) = begun_both a b k ws (begun d)
  begun (left {a = a} {b = b} {k = k} {ws = ws} d) = begun_left a b k ws (begun d)
  begun (right {a = a} {b = b} {k = k} {ws = ws} d) = begun_right a b k ws (begun d)
  begun (stop {r = r} {k = k} {ws = ws} d) = begun_stop r k ws (begun d)
  begun (more {r = r} {k = k} {ws = ws} d) = begun_more r k ws (begun d)

  -- either r begins with the word, or it stands for nothing
  abbrev Steps : Rule A → List (Rule A) → W → List W → List (Parse W) → Type 0
  Steps r k w ws l =
      ((in_first accepts r w ≡ true) × (ps : List (Parse W)) × Derives accepts (after accepts r k w) ws ps × (l ≡ built accepts r w ps)) ⊎
      ((in_first accepts r w ≡ false) × (nullable r ≡ true) × (ps : List (Parse W)) × Derives accepts k (w ∷ ws) ps × (l ≡ empty_parse r ∷ ps))

  abbrev One_of : A → List (Rule A) → W → List W → List (Parse W) → Type 0
  One_of c k w ws l = (accepts c w ≡ true) × (ps : List (Parse W)) × Derives accepts k ws ps × (l ≡ Leaf w ∷ ps)

  un_one : {c : A} {k : List (Rule A)} {w : W} {ws : List W} {l : List (Parse W)} → Derives accepts (Single c ∷ k) (w ∷ ws) l → One_of c k w ws l
  un_one (one {ps = ps} h d) = (h, ps, d, refl)

  un_empty : {k : List (Rule A)} {ws : List W} {l : List (Parse W)}
      → Derives accepts (Empty ∷ k) ws l
      → (ps : List (Parse W)) × Derives accepts k ws ps × (l ≡ Nil ∷ ps)
  un_empty (empty {ps = ps} d) = (ps, d, refl)

  un_both : {a b : Rule A} {k : List (Rule A)} {ws : List W} {l : List (Parse W)}
      → Derives accepts (Seq a b ∷ k) ws l
      → (ps : List (Parse W)) × Derives accepts (a ∷ b ∷ k) ws ps × (l ≡ paired ps)
  un_both (both {x = x} {y = y} {ps = ps} d) = (x ∷ y ∷ ps, d, refl)

  un_or : {a b : Rule A} {k : List (Rule A)} {ws : List W} {l : List (Parse W)}
      → Derives accepts (Alt a b ∷ k) ws l
      → ((ps : List (Parse W)) × Derives accepts (a ∷ k) ws ps × (l ≡ lefted ps)) ⊎ ((ps : List (Parse W)) × Derives accepts (b ∷ k) ws ps × (l ≡ righted ps))
  un_or (left {x = x} {ps = ps} d) = inl (x ∷ ps, d, refl)
  un_or (right {x = x} {ps = ps} d) = inr (x ∷ ps, d, refl)

  un_many : {r : Rule A} {k : List (Rule A)} {ws : List W} {l : List (Parse W)}
      → Derives accepts (Star r ∷ k) ws l
      → ((ps : List (Parse W)) × Derives accepts (r ∷ Star r ∷ k) ws ps × (l ≡ paired ps)) ⊎ ((ps : List (Parse W)) × Derives accepts k ws ps × (l ≡ Nil ∷ ps))
  un_many (stop {ps = ps} d) = inr (ps, d, refl)
  un_many (more {x = x} {xs = xs} {ps = ps} d) = inl (x ∷ xs ∷ ps, d, refl)

  taken : (r : Rule A) (k : List (Rule A)) (w : W) (ws : List W) (l : List (Parse W))
      → IsLL1 accepts r (begins accepts k)
      → Derives accepts (r ∷ k) (w ∷ ws) l
      → Steps r k w ws l
  taken (Single c) k w ws l ok d = let u = un_one d in inl (u.0, u.1, u.2, u.3)
  taken Empty k w ws l ok d = let u = un_empty d in inr (refl, refl, u.0, u.1, u.2)
  taken (Seq a b) k w ws l ok d =
      let u = un_both d in
      elim (taken a (b ∷ k) w ws u.0 ok.0 u.1) [
        | inl s ↦ inl (or_left _ _ s.0, s.1, subst (λ q. Derives accepts q ws s.1) (sym (cond-true _ _ _ s.0)) s.2, u.2 ∙ ap paired s.3 ∙ sym (cond-true _ _ _ s.0))
        | inr s ↦ elim (taken b k w ws s.2 ok.1 s.3) [
          | inl t ↦ inl (or_right _ _ (and_from _ _ s.1 t.0), t.1, subst (λ q. Derives accepts q ws t.1) (sym (cond-false _ _ _ s.0)) t.2, u.2 ∙ ap paired (s.4 ∙ ap (λ (q : List (Parse W)). empty_parse a ∷ q) t.3) ∙ sym (cond-false _ _ _ s.0))
          | inr t ↦ inr (or_from _ _ s.0 (and_right _ _ t.0), and_from _ _ s.1 t.1, t.2, t.3, u.2 ∙ ap paired (s.4 ∙ ap (λ (q : List (Parse W)). empty_parse a ∷ q) t.4))
        ]
      ]
  taken (Alt a b) k w ws l ok d =
      elim (un_or d) [
        | inl u ↦ elim (taken a k w ws u.0 ok.0 u.1) [
          | inl s ↦ inl (or_left _ _ s.0, s.1, subst (λ q. Derives accepts q ws s.1) (sym (cond-true _ _ _ s.0)) s.2, u.2 ∙ ap lefted s.3 ∙ sym (cond-true _ _ _ s.0))
          | inr s ↦ elim (cases_Bool (in_first accepts b w)) [
            | inl t ↦ absurd (ok.4 (or_left _ _ s.1) w (or_right _ _ t) (begun s.3))
            | inr t ↦ inr (or_from _ _ s.0 t, or_left _ _ s.1, s.2, s.3, u.2 ∙ ap lefted s.4 ∙ ap (λ (p : Parse W). p ∷ s.2) (sym (cond-true _ _ _ s.1)))
          ]
        ]
        | inr u ↦ elim (taken b k w ws u.0 ok.1 u.1) [
          | inl s ↦
              let f : in_first accepts a w ≡ false = false_from_ne_true _ (λ t. ok.2 w t s.0) in
              inl (or_right _ _ s.0, s.1, subst (λ q. Derives accepts q ws s.1) (sym (cond-false _ _ _ f)) s.2, u.2 ∙ ap righted s.3 ∙ sym (cond-false _ _ _ f))
          | inr s ↦ elim (cases_Bool (in_first accepts a w)) [
            | inl t ↦ absurd (ok.4 (or_right _ _ s.1) w (or_left _ _ t) (begun s.3))
            | inr t ↦
                let f : nullable a ≡ false = not_with (nullable a) (nullable b) ok.3 s.1 in
                inr (or_from _ _ t s.0, or_right _ _ s.1, s.2, s.3, u.2 ∙ ap righted s.4 ∙ ap (λ (p : Parse W). p ∷ s.2) (sym (cond-false _ _ _ f)))
          ]
        ]
      ]
  taken (Star r) k w ws l ok d =
      elim (un_many d) [
        | inl u ↦ elim (taken r (Star r ∷ k) w ws u.0 ok.0 u.1) [ inl s ↦ inl (s.0, s.1, s.2, u.2 ∙ ap paired s.3) | inr s ↦ absurd (both_ways _ ok.1 s.1) ]
        | inr u ↦ elim (cases_Bool (in_first accepts r w)) [ inl t ↦ absurd (ok.2 w t (begun u.1)) | inr t ↦ inr (t, refl, u.0, u.1, u.2) ]
      ]

  after_clear : (r : Rule A) (k : List (Rule A)) (w : W) → IsLL1 accepts r (begins accepts k) → AreLL1 accepts k → AreLL1 accepts (after accepts r k w)
  after_clear (Single c) k w ok all = all
  after_clear Empty k w ok all = all
  after_clear (Seq a b) k w ok all =
      elim (cases_Bool (in_first accepts a w)) [
        | inl e ↦ subst (AreLL1 accepts) (sym (cond-true _ _ _ e)) (after_clear a (b ∷ k) w ok.0 (ok.1, all))
        | inr e ↦ subst (AreLL1 accepts) (sym (cond-false _ _ _ e)) (after_clear b k w ok.1 all)
      ]
  after_clear (Alt a b) k w ok all =
      elim (cases_Bool (in_first accepts a w)) [
        | inl e ↦ subst (AreLL1 accepts) (sym (cond-true _ _ _ e)) (after_clear a k w ok.0 all)
        | inr e ↦ subst (AreLL1 accepts) (sym (cond-false _ _ _ e)) (after_clear b k w ok.1 all)
      ]
  after_clear (Star r) k w ok all = after_clear r (Star r ∷ k) w ok.0 (ok, all)

  -- one step: the machine goes on, and the rest is derived from what it goes on with
  pub step : (k : List (Rule A)) (w : W) (ws : List W) (l : List (Parse W))
      → AreLL1 accepts k
      → Derives accepts k (w ∷ ws) l
      → (next : List (Rule A)) × (pop accepts k w ≡ Some next) × (ps : List (Parse W)) × Derives accepts next ws ps × (l ≡ push accepts k w ps)
  step [] w ws l ok d = elim d [ ]
  step (r ∷ k) w ws l ok d =
      elim (taken r k w ws l ok.0 d) [
        | inl s ↦ (after accepts r k w, cond-true _ _ _ s.0, s.1, s.2, s.3 ∙ sym (cond-true _ _ _ s.0))
        | inr s ↦
            let t = step k w ws s.2 ok.1 s.3 in
            (t.0, cond-false _ _ _ s.0 ∙ cond-true _ _ _ s.1 ∙ t.1, t.2, t.3, s.4 ∙ ap (λ (q : List (Parse W)). empty_parse r ∷ q) t.4 ∙ sym (cond-false _ _ _ s.0))
      ]

  pub pop_clear : (k : List (Rule A)) (w : W) (next : List (Rule A)) → AreLL1 accepts k → pop accepts k w ≡ Some next → AreLL1 accepts next
  pop_clear [] w next ok h = cc
  pop_clear (r ∷ k) w next ok h =
      elim (cases_Bool (in_first accepts r w)) [
        | inl e ↦
            let is : Some (after accepts r k w) ≡ Some next = sym (cond-true _ _ _ e) ∙ h in
            let same : after accepts r k w ≡ next = cc in
            subst (AreLL1 accepts) same (after_clear r k w ok.0 ok.1)
        | inr e ↦ elim (cases_Bool (nullable r)) [
          | inl f ↦ pop_clear k w next ok.1 (sym (cond-false _ _ _ e ∙ cond-true _ _ _ f) ∙ h)
          | inr f ↦ let no : None ≡ Some next = sym (cond-false _ _ _ e ∙ cond-false _ _ _ f) ∙ h in cc
        ]
      ]

  abbrev Nothing : Rule A → List (Rule A) → List (Parse W) → Type 0
  Nothing r k l = (nullable r ≡ true) × (ps : List (Parse W)) × Derives accepts k [] ps × (l ≡ empty_parse r ∷ ps)

  -- at the end a rule reads nothing
  nothing : (r : Rule A) (k : List (Rule A)) (l : List (Parse W)) (f : W → Bool) → IsLL1 accepts r f → Derives accepts (r ∷ k) [] l → Nothing r k l
  nothing (Single c) k l f ok d = elim d [ ]
  nothing Empty k l f ok d = let u = un_empty d in (refl, u.0, u.1, u.2)
  nothing (Seq a b) k l f ok d =
      let u = un_both d in
      let s = nothing a (b ∷ k) u.0 (λ w. in_first accepts b w || (nullable b && f w)) ok.0 u.1 in
      let t = nothing b k s.1 f ok.1 s.2 in
      (and_from _ _ s.0 t.0, t.1, t.2, u.2 ∙ ap paired (s.3 ∙ ap (λ (q : List (Parse W)). empty_parse a ∷ q) t.3))
  nothing (Alt a b) k l f ok d =
      elim (un_or d) [
        | inl u ↦
            let s = nothing a k u.0 f ok.0 u.1 in
            (or_left _ _ s.0, s.1, s.2, u.2 ∙ ap lefted s.3 ∙ ap (λ (p : Parse W). p ∷ s.1) (sym (cond-true _ _ _ s.0)))
        | inr u ↦
            let s = nothing b k u.0 f ok.1 u.1 in
            let no : nullable a ≡ false = not_with (nullable a) (nullable b) ok.3 s.0 in
            (or_right _ _ s.0, s.1, s.2, u.2 ∙ ap righted s.3 ∙ ap (λ (p : Parse W). p ∷ s.1) (sym (cond-false _ _ _ no)))
      ]
  nothing (Star r) k l f ok d =
      elim (un_many d) [
        | inl u ↦ absurd (both_ways _ ok.1 (nothing r (Star r ∷ k) u.0 (λ w. in_first accepts r w || f w) ok.0 u.1).0)
        | inr u ↦ (refl, u.0, u.1, u.2)
      ]

  un_ends : {l : List (Parse W)} → Derives accepts [] [] l → l ≡ []
  un_ends ends = refl

  pub ended : (k : List (Rule A)) (l : List (Parse W)) → AreLL1 accepts k → Derives accepts k [] l → (all_skip k ≡ true) × (l ≡ empty_parses k)
  ended [] l ok d = (refl, un_ends d)
  ended (r ∷ k) l ok d =
      let s = nothing r k l (begins accepts k) ok.0 d in
      let t = ended k s.1 ok.1 s.2 in
      (and_from _ _ s.0 t.0, s.3 ∙ ap (λ (q : List (Parse W)). empty_parse r ∷ q) t.1)
