-- At each offset there is one step: one longest piece, or one error.
use Rattle.std.proofs.Common.{◌≡◌, ◌⊎◌, inl, inr, ℕ, ◌+◌, ◌<◌, ◌≤◌, ◌==◌, true, false, List, length, refl, sym, ◌∙◌, ap, subst, arith}
use Rattle.std.proofs.lemmas.Bool.{both_ways, cases_order, eqb-true, and_parts}
use Rattle.pq_lex.specs.declared.bytes.Class.{Class}
use Rattle.pq_lex.specs.declared.bytes.Class.TheVariants.{Letter, Digit, Space, Quote, Point, Slash, Mark, Other}
use Rattle.pq_lex.specs.declared.bytes.Set.TheVariants.{Continuations}
use Rattle.pq_lex.specs.declared.token.Kind.{Kind}
use Rattle.pq_lex.specs.declared.token.Kind.TheVariants.{Integer, Float, Symbol}
use Rattle.pq_lex.specs.declared.token.Span.{Span}
use Rattle.pq_lex.specs.declared.token.Code.{Code}
use Rattle.pq_lex.specs.declared.token.Step.{Step}
use Rattle.pq_lex.specs.declared.token.Step.TheVariants.{Pass, Take, Stop}
use Rattle.pq_lex.specs.Classes.{byte, at, class_of, is_quote}
use Rattle.pq_lex.specs.Runs.{run_end}
use Rattle.pq_lex.specs.aux.Scan.{step_at}
use Rattle.pq_lex.specs.Tokens.{Piece, Separator, Lexeme, span, opens, IsSeparator, order_mark, blanks, line_comment, comment, Spells, IsLongest, runs_on, IsCharacter, IsFault, of_comment, of_text, of_other}
use Rattle.pq_lex.proofs.RunLemmas.{run_one}
use Rattle.pq_lex.proofs.FirstBytes.{class_space, of_class, only_letter, only_space, only_other, only_quote, only_mark, either_digit, either_point, either_slash}
use Rattle.pq_lex.proofs.NumberEnds.{float_longer}
use Rattle.pq_lex.proofs.StringEnds.{fault_is}
use Rattle.pq_lex.proofs.Pieces.{IsStep, Fails, Overruns, as_sort, float_within, computed_step}

module _ (text : List ℕ) (i : ℕ) where
  slash_two : (n : ℕ) → at text i ≡ Slash → IsSeparator text i n → i + 2 ≤ n
  slash_two n c (order_mark start end a b d) = let e : at text i ≡ Other = ap class_of (subst (λ k. byte text k ≡ 0xEF) (sym start) a) in cc
  slash_two n c (blanks some r) = let e : at text i ≡ Space = class_space (byte text i) (r.all i (omega arith) some) in cc
  slash_two n c (line_comment a b r) = r.ordered
  slash_two n c (comment o k d end) = omega (arith, end, d.from)

  symbol_and_float : (p q : Piece) (n : ℕ) → p ≡ Lexeme Symbol → q ≡ Lexeme Float → Spells text p i n → Spells text q i n → ⊥
  symbol_and_float p q n e f s t =
      let u = as_sort text i n p (Lexeme Symbol) e s in
      let w = (float_within text i n (as_sort text i n q (Lexeme Float) f t)).0 in
      omega (arith, u.one, w)

  integer_and_float : (p q : Piece) (n : ℕ) → p ≡ Lexeme Integer → q ≡ Lexeme Float → Spells text p i n → Spells text q i n → ⊥
  integer_and_float p q n e f s t =
      let w = float_longer text i n n (as_sort text i n p (Lexeme Integer) e s) (as_sort text i n q (Lexeme Float) f t) in
      omega (arith, w)

  symbol_and_separator : (p q : Piece) (n : ℕ) → at text i ≡ Slash → p ≡ Lexeme Symbol → q ≡ Separator → Spells text p i n → Spells text q i n → ⊥
  symbol_and_separator p q n c e f s t =
      let u = as_sort text i n p (Lexeme Symbol) e s in
      let w = slash_two n c (as_sort text i n q Separator f t) in
      omega (arith, u.one, w)

  one_sort : (c : Class) → at text i ≡ c → (p q : Piece) (n : ℕ) → Spells text p i n → Spells text q i n → p ≡ q
  one_sort Letter c p q n s t = only_letter p (of_class text Letter i c p n s) ∙ sym (only_letter q (of_class text Letter i c q n t))
  one_sort Space c p q n s t = only_space p (of_class text Space i c p n s) ∙ sym (only_space q (of_class text Space i c q n t))
  one_sort Quote c p q n s t = only_quote p (of_class text Quote i c p n s) ∙ sym (only_quote q (of_class text Quote i c q n t))
  one_sort Mark c p q n s t = only_mark p (of_class text Mark i c p n s) ∙ sym (only_mark q (of_class text Mark i c q n t))
  one_sort Other c p q n s t = only_other p (of_class text Other i c p n s) ∙ sym (only_other q (of_class text Other i c q n t))
  one_sort Digit c p q n s t = elim (either_digit p (of_class text Digit i c p n s)) [
    | inl e ↦ elim (either_digit q (of_class text Digit i c q n t)) [ inl f ↦ e ∙ sym f | inr f ↦ absurd (integer_and_float p q n e f s t) ]
    | inr e ↦ elim (either_digit q (of_class text Digit i c q n t)) [ inl f ↦ absurd (integer_and_float q p n f e t s) | inr f ↦ e ∙ sym f ]
  ]
  one_sort Point c p q n s t = elim (either_point p (of_class text Point i c p n s)) [
    | inl e ↦ elim (either_point q (of_class text Point i c q n t)) [ inl f ↦ e ∙ sym f | inr f ↦ absurd (symbol_and_float p q n e f s t) ]
    | inr e ↦ elim (either_point q (of_class text Point i c q n t)) [ inl f ↦ absurd (symbol_and_float q p n f e t s) | inr f ↦ e ∙ sym f ]
  ]
  one_sort Slash c p q n s t = elim (either_slash p (of_class text Slash i c p n s)) [
    | inl e ↦ elim (either_slash q (of_class text Slash i c q n t)) [ inl f ↦ e ∙ sym f | inr f ↦ absurd (symbol_and_separator p q n c e f s t) ]
    | inr e ↦ elim (either_slash q (of_class text Slash i c q n t)) [ inl f ↦ absurd (symbol_and_separator q p n c f e t s) | inr f ↦ e ∙ sym f ]
  ]

  one_end : (p q : Piece) (n m : ℕ) → IsLongest text p i n → IsLongest text q i m → n ≡ m
  one_end p q n m s t = elim (cases_order n m) [
    | inl same ↦ same
    | inr o ↦ elim o [ inl less ↦ absurd (s.longest q m less t.spells) | inr more ↦ absurd (t.longest p n more s.spells) ]
  ]

  one_piece : (p q : Piece) (n m : ℕ) → IsLongest text p i n → IsLongest text q i m → (p ≡ q) × (n ≡ m)
  one_piece p q n m s t =
      let e = one_end p q n m s t in
      (one_sort (at text i) refl p q n s.spells (subst (λ k. Spells text q i k) (sym e) t.spells), e)

  quote_opens : is_quote (byte text i) ≡ true → opens text i ≡ true → ⊥
  quote_opens q o = both_ways (is_quote (byte text i)) (ap is_quote (eqb-true (byte text i) 47 (and_parts (byte text i == 47) (byte text (i + 1) == 42) o).0)) q

  character_end : (n : ℕ) → IsCharacter text i n → n ≡ run_end Continuations text (i + 1)
  character_end n c = run_one Continuations text (i + 1) n c.others (λ h. c.stop)

  one_fault : (a b : Span) (c d : Code) → IsFault text i a c → IsFault text i b d → Stop a c ≡ Stop b d
  one_fault a b c d (of_comment o e f) (of_comment p g h) = cc
  one_fault a b c d (of_comment o e f) (of_text q t) = absurd (quote_opens q o)
  one_fault a b c d (of_comment o e f) (of_other p q n r g h) = absurd (both_ways (opens text i) p o)
  one_fault a b c d (of_text q t) (of_comment o e f) = absurd (quote_opens q o)
  one_fault a b c d (of_text q t) (of_text r u) =
      let x = fault_is text (byte text i) i q a c (i + 1) t (length text) (omega arith) in
      let y = fault_is text (byte text i) i q b d (i + 1) u (length text) (omega arith) in
      sym x ∙ y
  one_fault a b c d (of_text q t) (of_other p r n s g h) = absurd (both_ways (is_quote (byte text i)) r q)
  one_fault a b c d (of_other p r n s g h) (of_comment o e f) = absurd (both_ways (opens text i) p o)
  one_fault a b c d (of_other p r n s g h) (of_text q t) = absurd (both_ways (is_quote (byte text i)) r q)
  one_fault a b c d (of_other p r n s g h) (of_other o q m t e f) =
      let same : n ≡ m = character_end n s ∙ sym (character_end m t) in
      cc

  pass_no_fault : (n : ℕ) (a : Span) (c : Code) → IsLongest text Separator i n → Fails text i a c ⊎ Overruns text i a c → ⊥
  pass_no_fault n a c l (inl f) = f.none Separator n l.spells
  pass_no_fault n a c l (inr o) = let e = (one_piece Separator (Lexeme o.kind) n o.end l o.longest).0 in cc

  take_no_fault : (k : Kind) (n : ℕ) (a : Span) (c : Code) → IsLongest text (Lexeme k) i n → runs_on k text n ≡ false → Fails text i a c ⊎ Overruns text i a c → ⊥
  take_no_fault k n a c l r (inl f) = f.none (Lexeme k) n l.spells
  take_no_fault k n a c l r (inr o) =
      let e = one_piece (Lexeme k) (Lexeme o.kind) n o.end l o.longest in
      let x : k ≡ o.kind = (let f = e.0 in cc) in
      let y : n ≡ o.end = e.1 in
      both_ways (runs_on k text n) r (subst (λ j. runs_on j text n ≡ true) (sym x) (subst (λ m. runs_on o.kind text m ≡ true) (sym y) o.runs))

  one_stop : (a b : Span) (c d : Code) → Fails text i a c ⊎ Overruns text i a c → Fails text i b d ⊎ Overruns text i b d → Stop a c ≡ Stop b d
  one_stop a b c d (inl f) (inl g) = one_fault a b c d f.fault g.fault
  one_stop a b c d (inl f) (inr o) = absurd (f.none (Lexeme o.kind) o.end o.longest.spells)
  one_stop a b c d (inr o) (inl f) = absurd (f.none (Lexeme o.kind) o.end o.longest.spells)
  one_stop a b c d (inr o) (inr p) =
      let e : o.end ≡ p.end = (one_piece (Lexeme o.kind) (Lexeme p.kind) o.end p.end o.longest p.longest).1 in
      let f : span i o.end ≡ span i p.end = ap (λ (k : ℕ). span i k) e in
      let x = o.here in
      let y = p.here in
      let z = o.is in
      let w = p.is in
      cc

  -- two steps at one offset are the same
  pub one_step : (s t : Step) → IsStep text i s → IsStep text i t → s ≡ t
  one_step (Pass n) (Pass m) x y = ap Pass (one_piece Separator Separator n m x y).1
  one_step (Pass n) (Take k m) x y = let e = (one_piece Separator (Lexeme k) n m x y.0).0 in cc
  one_step (Pass n) (Stop b d) x y = absurd (pass_no_fault n b d x y)
  one_step (Take j n) (Pass m) x y = let e = (one_piece (Lexeme j) Separator n m x.0 y).0 in cc
  one_step (Take j n) (Take k m) x y = let e = one_piece (Lexeme j) (Lexeme k) n m x.0 y.0 in let f = e.0 in let g = e.1 in cc
  one_step (Take j n) (Stop b d) x y = absurd (take_no_fault j n b d x.0 x.1 y)
  one_step (Stop a c) (Pass m) x y = absurd (pass_no_fault m a c y x)
  one_step (Stop a c) (Take k m) x y = absurd (take_no_fault k m a c y.0 y.1 x)
  one_step (Stop a c) (Stop b d) x y = one_stop a b c d x y

  pub step_is : i < length text → (s : Step) → IsStep text i s → step_at text i ≡ s
  step_is here s h = one_step (step_at text i) s (computed_step text i here) h
