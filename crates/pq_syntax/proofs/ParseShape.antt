-- A derivation's parses have the shapes of their rules, and what they yield are the words derived. A rule that is not nullable
-- yields at least one word.
use Rattle.std.proofs.Common.{◌≡◌, Bool, true, false, ◌&&◌, ◌||◌, List, [], ◌∷◌, ◌++◌, refl, sym, ap, ◌∙◌, append_assoc, inl, inr}
use Rattle.std.proofs.lemmas.Bool.{cases_Bool}
use Rattle.pq_syntax.specs.Rule.{Rule, Parse, Derives}
use Rattle.pq_syntax.specs.Rule.Rule.{Single, Empty, Seq, Alt, Star}
use Rattle.pq_syntax.specs.Rule.Parse.{Leaf, Nil, Pair, Left, Right}
use Rattle.pq_syntax.specs.Rule.Derives.{ends, one, empty, both, left, right, stop, more}
use Rattle.pq_syntax.specs.Yield.{yield_of}
use Rattle.pq_syntax.specs.aux.Machine.{nullable}

-- `HasShape p r` is: `p` is built as parses of `r` are.
abbrev pub HasShape : {A W : Type 0} → Parse W → Rule A → Type 0
HasShape (Leaf w) (Single c) = Unit {0}
HasShape Nil Empty = Unit {0}
HasShape Nil (Star r) = Unit {0}
HasShape (Pair p q) (Seq a b) = HasShape p a × HasShape q b
HasShape (Pair p q) (Star r) = HasShape p r × HasShape q (Star r)
HasShape (Left p) (Alt a b) = HasShape p a
HasShape (Right p) (Alt a b) = HasShape p b
HasShape _ _ = ⊥

abbrev pub HaveShapes : {A W : Type 0} → List (Parse W) → List (Rule A) → Type 0
HaveShapes [] [] = Unit {0}
HaveShapes (p ∷ ps) (r ∷ rs) = HasShape p r × HaveShapes ps rs
HaveShapes _ _ = ⊥

-- `yields ps` is the words of `ps`, from first to last.
abbrev pub yields : {W : Type 0} → List (Parse W) → List W
yields [] = []
yields (p ∷ ps) = yield_of p ++ yields ps

-- `HasWord ws` is: `ws` is not empty.
abbrev pub HasWord : {W : Type 0} → List W → Type 0
HasWord [] = ⊥
HasWord (w ∷ ws) = Unit {0}

module _ {A W : Type 0} (accepts : A → W → Bool) where
  pub shaped : {k : List (Rule A)} {ws : List W} {ps : List (Parse W)} → Derives accepts k ws ps → HaveShapes ps k × (ws ≡ yields ps)
  shaped ends = (tt, refl)
  shaped (one {w = w} h d) = let s = shaped d in ((tt, s.0), ap (λ l. w ∷ l) s.1)
  shaped (empty d) = let s = shaped d in ((tt, s.0), s.1)
  shaped (both {x = x} {y = y} {ps = ps} d) =
      let s = shaped d in
      (((s.0.0, s.0.1.0), s.0.1.1), s.1 ∙ sym (append_assoc (yield_of x) (yield_of y) (yields ps)))
  shaped (left d) = let s = shaped d in ((s.0.0, s.0.1), s.1)
  shaped (right d) = let s = shaped d in ((s.0.0, s.0.1), s.1)
  shaped (stop d) = let s = shaped d in ((tt, s.0), s.1)
  shaped (more {x = x} {xs = xs} {ps = ps} d) =
      let s = shaped d in
      (((s.0.0, s.0.1.0), s.0.1.1), s.1 ∙ sym (append_assoc (yield_of x) (yield_of xs) (yields ps)))

word_before : {W : Type 0} (ws vs : List W) → HasWord ws → HasWord (ws ++ vs)
word_before [] vs h = absurd h
word_before (w ∷ ws) vs h = tt

word_after : {W : Type 0} (ws vs : List W) → HasWord vs → HasWord (ws ++ vs)
word_after [] vs h = h
word_after (w ∷ ws) vs h = tt

neither : (p q : Bool) → p || q ≡ false → (p ≡ false) × (q ≡ false)
neither true q h = cc
neither false q h = (refl, h)

not_second : (p q : Bool) → p ≡ true → p && q ≡ false → q ≡ false
not_second true q e h = h
not_second false q e h = cc

pub has_word : {A W : Type 0} (p : Parse W) (r : Rule A) → nullable r ≡ false → HasShape p r → HasWord (yield_of p)
has_word (Leaf w) (Single c) h s = tt
has_word Nil Empty h s = cc
has_word Nil (Star r) h s = cc
has_word (Pair p q) (Star r) h s = cc
has_word (Pair p q) (Seq a b) h s = elim (cases_Bool (nullable a)) [
  | inl e ↦ word_after (yield_of p) (yield_of q) (has_word q b (not_second (nullable a) (nullable b) e h) s.1)
  | inr e ↦ word_before (yield_of p) (yield_of q) (has_word p a e s.0)
]
has_word (Left p) (Alt a b) h s = has_word p a (neither (nullable a) (nullable b) h).0 s
has_word (Right p) (Alt a b) h s = has_word p b (neither (nullable a) (nullable b) h).1 s
has_word _ _ h s = absurd s
