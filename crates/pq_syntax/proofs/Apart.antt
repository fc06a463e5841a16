-- Terminals that are apart have no word in common.
use Rattle.std.proofs.Common.{◌≡◌, ℕ, ◌==◌, Bool, true, false, not, ◌&&◌, List, [], ◌∷◌, refl, ap, sym, ◌∙◌, inl, inr}
use Rattle.std.specs.Str.{bytes_eq}
use Rattle.std.proofs.lemmas.Slice.Eq.{bytes_eq-Decides}
use Rattle.std.proofs.lemmas.Bool.{and_parts, and_from, both_ways, not-true, or_cases}
use Rattle.pq_lex.specs.declared.token.Kind.{Kind}
use Rattle.pq_lex.specs.declared.token.Kind.TheVariants.{Identifier, Integer, Float, Text, Symbol}
use Rattle.pq_syntax.specs.Words.{Word, Class, Named, Keyword, OneOf, NameBut, Whole, Real, Str, Valued, Sign, NoBracket, class, accepts, accepts_class, among, brackets, is_float, is_identifier, is_integer, is_symbol, is_text}
use Rattle.pq_syntax.specs.declared.terminal.Terminal.{Terminal}

at_identifier : (k : Kind) → is_identifier k ≡ true → k ≡ Identifier
at_identifier Identifier h = refl
at_identifier Integer h = cc
at_identifier Float h = cc
at_identifier Text h = cc
at_identifier Symbol h = cc

at_integer : (k : Kind) → is_integer k ≡ true → k ≡ Integer
at_integer Identifier h = cc
at_integer Integer h = refl
at_integer Float h = cc
at_integer Text h = cc
at_integer Symbol h = cc

at_float : (k : Kind) → is_float k ≡ true → k ≡ Float
at_float Identifier h = cc
at_float Integer h = cc
at_float Float h = refl
at_float Text h = cc
at_float Symbol h = cc

at_text : (k : Kind) → is_text k ≡ true → k ≡ Text
at_text Identifier h = cc
at_text Integer h = cc
at_text Float h = cc
at_text Text h = refl
at_text Symbol h = cc

at_symbol : (k : Kind) → is_symbol k ≡ true → k ≡ Symbol
at_symbol Identifier h = cc
at_symbol Integer h = cc
at_symbol Float h = cc
at_symbol Text h = cc
at_symbol Symbol h = refl

-- each spelling of the first list is in the second; none of them is
abbrev all_in : List (List ℕ) → List (List ℕ) → Bool
all_in [] bs = true
all_in (a ∷ as') bs = among a bs && all_in as' bs

abbrev none_in : List (List ℕ) → List (List ℕ) → Bool
none_in [] bs = true
none_in (a ∷ as') bs = not (among a bs) && none_in as' bs

same_is : (xs ys : List ℕ) → bytes_eq xs ys ≡ true → xs ≡ ys
same_is xs ys h = (bytes_eq-Decides xs ys).0 h

-- what holds of a spelling holds of the text that is the same
of_text : (f : List ℕ → Bool) (t xs : List ℕ) → bytes_eq t xs ≡ true → f t ≡ f xs
of_text f t xs e = ap f (same_is t xs e)

among_all : (t : List ℕ) (as' bs : List (List ℕ)) → all_in as' bs ≡ true → among t as' ≡ true → among t bs ≡ true
among_all t [] bs h e = cc
among_all t (a ∷ as') bs h e =
    let p = and_parts (among a bs) (all_in as' bs) h in
    elim (or_cases (bytes_eq t a) (among t as') e) [ inl g ↦ of_text (λ x. among x bs) t a g ∙ p.0 | inr g ↦ among_all t as' bs p.1 g ]

among_none : (t : List ℕ) (as' bs : List (List ℕ)) → none_in as' bs ≡ true → among t as' ≡ true → among t bs ≡ true → ⊥
among_none t [] bs h e f = cc
among_none t (a ∷ as') bs h e f =
    let p = and_parts (not (among a bs)) (none_in as' bs) h in
    elim (or_cases (bytes_eq t a) (among t as') e) [
      | inl g ↦ both_ways (among a bs) (not-true _ p.0) (sym (of_text (λ x. among x bs) t a g) ∙ f)
      | inr g ↦ among_none t as' bs p.1 g f
    ]

first : (p q : Bool) → p && q ≡ true → p ≡ true
first p q h = (and_parts p q h).0

second : (p q : Bool) → p && q ≡ true → q ≡ true
second p q h = (and_parts p q h).1

-- the kind of the words of a class that has one, and the number of a kind
abbrev kind_of : Class → Kind
kind_of Whole = Integer
kind_of Real = Float
kind_of Str = Text
kind_of (Valued v) = Text
kind_of (Sign c) = Symbol
kind_of NoBracket = Text
kind_of c = Identifier

abbrev number : Kind → ℕ
number Identifier = 0
number Integer = 1
number Float = 2
number Text = 3
number Symbol = 4

kind_is : (c : Class) (w : Word) → (c ≡ NoBracket → ⊥) → accepts_class c w ≡ true → w.kind ≡ kind_of c
kind_is Named w n h = at_identifier w.kind h
kind_is (Keyword k) w n h = at_identifier w.kind (first _ _ h)
kind_is (OneOf ks) w n h = at_identifier w.kind (first _ _ h)
kind_is (NameBut ks) w n h = at_identifier w.kind (first _ _ h)
kind_is Whole w n h = at_integer w.kind h
kind_is Real w n h = at_float w.kind h
kind_is Str w n h = at_text w.kind h
kind_is (Valued v) w n h = at_text w.kind (first _ _ h)
kind_is (Sign c) w n h = at_symbol w.kind (first _ _ h)
kind_is NoBracket w n h = absurd (n refl)

differ : (c d : Class) (w : Word)
    → (c ≡ NoBracket → ⊥)
    → (d ≡ NoBracket → ⊥)
    → (kind_of c ≡ kind_of d → ⊥)
    → accepts_class c w ≡ true
    → accepts_class d w ≡ true
    → ⊥
differ c d w p q n e f = n (sym (kind_is c w p e) ∙ kind_is d w q f)

-- no word is of both classes: by their spellings, or by their kinds
abbrev apart_classes : Class → Class → Bool
apart_classes (Sign a) (Sign b) = not (bytes_eq a b)
apart_classes NoBracket (Sign c) = among c brackets
apart_classes (Sign c) NoBracket = among c brackets
apart_classes NoBracket d = false
apart_classes c NoBracket = false
apart_classes (Keyword a) (Keyword b) = not (bytes_eq a b)
apart_classes (Keyword a) (NameBut bs) = among a bs
apart_classes (NameBut bs) (Keyword a) = among a bs
apart_classes (Keyword a) (OneOf bs) = not (among a bs)
apart_classes (OneOf bs) (Keyword a) = not (among a bs)
apart_classes (OneOf as') (NameBut bs) = all_in as' bs
apart_classes (NameBut bs) (OneOf as') = all_in as' bs
apart_classes (OneOf as') (OneOf bs) = none_in as' bs
apart_classes c d = not (number (kind_of c) == number (kind_of d))

apart_classes_sound : (c d : Class) (w : Word) → apart_classes c d ≡ true → accepts_class c w ≡ true → accepts_class d w ≡ true → ⊥
apart_classes_sound (Sign a) (Sign b) w h e f =
    both_ways (bytes_eq a b) (not-true _ h) (sym (of_text (λ x. bytes_eq x b) w.text a (second _ _ e)) ∙ second _ _ f)
apart_classes_sound NoBracket (Sign c) w h e f =
    both_ways (is_symbol w.kind && among w.text brackets) (not-true _ e) (and_from _ _ (first _ _ f) (of_text (λ x. among x brackets) w.text c (second _ _ f) ∙ h))
apart_classes_sound (Sign c) NoBracket w h e f =
    both_ways (is_symbol w.kind && among w.text brackets) (not-true _ f) (and_from _ _ (first _ _ e) (of_text (λ x. among x brackets) w.text c (second _ _ e) ∙ h))
apart_classes_sound (Keyword a) (Keyword b) w h e f = both_ways (bytes_eq a b) (not-true _ h) (sym (of_text (λ x. bytes_eq x b) w.text a (second _ _ e)) ∙ second _ _ f)
apart_classes_sound (Keyword a) (NameBut bs) w h e f = both_ways (among w.text bs) (not-true _ (second _ _ f)) (of_text (λ x. among x bs) w.text a (second _ _ e) ∙ h)
apart_classes_sound (NameBut bs) (Keyword a) w h e f = both_ways (among w.text bs) (not-true _ (second _ _ e)) (of_text (λ x. among x bs) w.text a (second _ _ f) ∙ h)
apart_classes_sound (Keyword a) (OneOf bs) w h e f = both_ways (among a bs) (not-true _ h) (sym (of_text (λ x. among x bs) w.text a (second _ _ e)) ∙ second _ _ f)
apart_classes_sound (OneOf bs) (Keyword a) w h e f = both_ways (among a bs) (not-true _ h) (sym (of_text (λ x. among x bs) w.text a (second _ _ f)) ∙ second _ _ e)
apart_classes_sound (OneOf as') (NameBut bs) w h e f = both_ways (among w.text bs) (not-true _ (second _ _ f)) (among_all w.text as' bs h (second _ _ e))
apart_classes_sound (NameBut bs) (OneOf as') w h e f = both_ways (among w.text bs) (not-true _ (second _ _ e)) (among_all w.text as' bs h (second _ _ f))
apart_classes_sound (OneOf as') (OneOf bs) w h e f = among_none w.text as' bs h (second _ _ e) (second _ _ f)
apart_classes_sound NoBracket d w h e f = cc
apart_classes_sound c NoBracket w h e f = cc
apart_classes_sound c d w h e f = differ c d w (λ p. cc) (λ p. cc) (λ p. cc) e f

abbrev pub apart : Terminal → Terminal → Bool
apart c d = apart_classes (class c) (class d)

pub apart_sound : (c d : Terminal) (w : Word) → apart c d ≡ true → accepts c w ≡ true → accepts d w ≡ true → ⊥
apart_sound c d w h e f = apart_classes_sound (class c) (class d) w h e f
