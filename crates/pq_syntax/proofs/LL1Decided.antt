-- The test for clear rules is right.
use Rattle.std.proofs.Common.{◌≡◌, Bool, true, false, not, ◌&&◌, ◌||◌, cond, List, [], ◌∷◌, ◌++◌, sym, subst, inl, inr}
use Rattle.std.proofs.lemmas.Bool.{and_parts, or_cases, or_left, or_right, cond-true, not-true}
use Rattle.pq_syntax.specs.Rule.{Rule}
use Rattle.pq_syntax.specs.Rule.Rule.{Single, Empty, Seq, Alt, Star}
use Rattle.pq_syntax.specs.aux.Machine.{nullable, in_first}
use Rattle.pq_syntax.specs.aux.LL1.{IsLL1}
use Rattle.pq_syntax.specs.aux.LL1Test.{first_set, apart_from, all_apart, is_ll1}

not_both : (p q : Bool) → not p || q ≡ true → p ≡ true → q ≡ true
not_both true q h e = h
not_both false q h e = cc

module _ {A W : Type 0} (accepts : A → W → Bool) where
  -- one of the terminals accepts the word
  abbrev pub accepted : List A → W → Bool
  accepted [] w = false
  accepted (c ∷ cs) w = accepts c w || accepted cs w

  accepted_left : (cs ds : List A) (w : W) → accepted cs w ≡ true → accepted (cs ++ ds) w ≡ true
  accepted_left [] ds w h = cc
  accepted_left (c ∷ cs) ds w h = elim (or_cases (accepts c w) (accepted cs w) h) [ inl e ↦ or_left _ _ e | inr e ↦ or_right _ _ (accepted_left cs ds w e) ]

  accepted_right : (cs ds : List A) (w : W) → accepted ds w ≡ true → accepted (cs ++ ds) w ≡ true
  accepted_right [] ds w h = h
  accepted_right (c ∷ cs) ds w h = or_right _ _ (accepted_right cs ds w h)

  pub started : (r : Rule A) (w : W) → in_first accepts r w ≡ true → accepted (first_set r) w ≡ true
  started (Single c) w h = or_left _ _ h
  started Empty w h = h
  started (Seq a b) w h = elim (or_cases (in_first accepts a w) (nullable a && in_first accepts b w) h) [
    | inl e ↦ accepted_left (first_set a) (cond (nullable a) (first_set b) []) w (started a w e)
    | inr e ↦
        let p = and_parts (nullable a) (in_first accepts b w) e in
        let at_b : accepted (cond (nullable a) (first_set b) []) w ≡ true = subst (λ l. accepted l w ≡ true) (sym (cond-true (nullable a) (first_set b) [] p.0)) (started b w p.1) in
        accepted_right (first_set a) (cond (nullable a) (first_set b) []) w at_b
  ]
  started (Alt a b) w h = elim (or_cases (in_first accepts a w) (in_first accepts b w) h) [
    | inl e ↦ accepted_left (first_set a) (first_set b) w (started a w e)
    | inr e ↦ accepted_right (first_set a) (first_set b) w (started b w e)
  ]
  started (Star r) w h = started r w h

  module _ (apart : A → A → Bool) (sound : (c d : A) (w : W) → apart c d ≡ true → accepts c w ≡ true → accepts d w ≡ true → ⊥) where
    apart_one : (c : A) (ds : List A) (w : W) → apart_from apart c ds ≡ true → accepts c w ≡ true → accepted ds w ≡ true → ⊥
    apart_one c [] w h e f = cc
    apart_one c (d ∷ ds) w h e f =
        let p = and_parts (apart c d) (apart_from apart c ds) h in
        elim (or_cases (accepts d w) (accepted ds w) f) [ inl g ↦ sound c d w p.0 e g | inr g ↦ apart_one c ds w p.1 e g ]

    pub apart_all : (cs ds : List A) (w : W) → all_apart apart cs ds ≡ true → accepted cs w ≡ true → accepted ds w ≡ true → ⊥
    apart_all [] ds w h e f = cc
    apart_all (c ∷ cs) ds w h e f =
        let p = and_parts (apart_from apart c ds) (all_apart apart cs ds) h in
        elim (or_cases (accepts c w) (accepted cs w) e) [ inl g ↦ apart_one c ds w p.0 g f | inr g ↦ apart_all cs ds w p.1 g f ]

    -- f begins with the terminals
    abbrev pub Within : (W → Bool) → List A → Type 0
    Within f cs = (w : W) → f w ≡ true → accepted cs w ≡ true

    pub decided : (r : Rule A) (follow : List A) (f : W → Bool) → Within f follow → is_ll1 apart r follow ≡ true → IsLL1 accepts r f
    decided (Single c) follow f within h = tt
    decided Empty follow f within h = tt
    decided (Seq a b) follow f within h =
        let p = and_parts (is_ll1 apart a (first_set b ++ cond (nullable b) follow [])) (is_ll1 apart b follow) h in
        let next : Within (λ w. in_first accepts b w || (nullable b && f w)) (first_set b ++ cond (nullable b) follow []) =
        λ w e. elim (or_cases (in_first accepts b w) (nullable b && f w) e) [
          | inl g ↦ accepted_left (first_set b) (cond (nullable b) follow []) w (started b w g)
          | inr g ↦
              let q = and_parts (nullable b) (f w) g in
              accepted_right (first_set b) (cond (nullable b) follow []) w (subst (λ l. accepted l w ≡ true) (sym (cond-true (nullable b) follow [] q.0)) (within w q.1))
        ] in
        (decided a (first_set b ++ cond (nullable b) follow []) (λ w. in_first accepts b w || (nullable b && f w)) next p.0, decided b follow f within p.1)
    decided (Alt a b) follow f within h =
        let p = and_parts (is_ll1 apart a follow) (is_ll1 apart b follow && (all_apart apart (first_set a) (first_set b) && (not (nullable a && nullable b) && (not (nullable a || nullable b) || all_apart apart (first_set a ++ first_set b) follow)))) h in
        let q = and_parts (is_ll1 apart b follow) (all_apart apart (first_set a) (first_set b) && (not (nullable a && nullable b) && (not (nullable a || nullable b) || all_apart apart (first_set a ++ first_set b) follow))) p.1 in
        let r = and_parts (all_apart apart (first_set a) (first_set b)) (not (nullable a && nullable b) && (not (nullable a || nullable b) || all_apart apart (first_set a ++ first_set b) follow)) q.1 in
        let t = and_parts (not (nullable a && nullable b)) (not (nullable a || nullable b) || all_apart apart (first_set a ++ first_set b) follow) r.1 in (
          decided a follow f within p.0,
          decided b follow f within q.0,
          λ w e g. apart_all (first_set a) (first_set b) w r.0 (started a w e) (started b w g),
          not-true (nullable a && nullable b) t.0,
          λ s w e g. apart_all (first_set a ++ first_set b) follow w (not_both (nullable a || nullable b) (all_apart apart (first_set a ++ first_set b) follow) t.1 s)
              (started (Alt a b) w e) (within w g),
        )
    decided (Star r) follow f within h =
        let p = and_parts (is_ll1 apart r (first_set r ++ follow)) (not (nullable r) && all_apart apart (first_set r) follow) h in
        let q = and_parts (not (nullable r)) (all_apart apart (first_set r) follow) p.1 in
        let next : Within (λ w. in_first accepts r w || f w) (first_set r ++ follow) =
        λ w e. elim (or_cases (in_first accepts r w) (f w) e) [
          | inl g ↦ accepted_left (first_set r) follow w (started r w g)
          | inr g ↦ accepted_right (first_set r) follow w (within w g)
        ] in (
          decided r (first_set r ++ follow) (λ w. in_first accepts r w || f w) next p.0,
          not-true (nullable r) q.0,
          λ w e g. apart_all (first_set r) follow w q.1 (started r w e) (within w g),
        )
