-- The step that the code computes at each offset is the one that the relations say: the longest
-- piece there, or the error.
use Rattle.std.proofs.Common.{◌≡◌, ◌⊎◌, inl, inr, ℕ, ◌+◌, ◌<◌, ◌≤◌, ◌==◌, true, false, cond, List, length, Option, Some, None, refl, sym, ◌∙◌, ap, subst, arith, nat_lt}
use Rattle.std.proofs.lemmas.Bool.{both_ways, cases_lt, eqb-true, eq-eqb, ne_eqb, ltb-true, ltb-false, and_parts, and_from, and_left, and_right, cond_both}
use Rattle.std.proofs.lemmas.List.{get_or_past}
use Rattle.pq_lex.specs.declared.bytes.Class.{Class}
use Rattle.pq_lex.specs.declared.bytes.Class.TheVariants.{Letter, Digit, Space, Quote, Point, Slash, Mark, Other}
use Rattle.pq_lex.specs.declared.bytes.Set.TheVariants.{Spaces, Words, Lines, Continuations}
use Rattle.pq_lex.specs.declared.token.Kind.{Kind}
use Rattle.pq_lex.specs.declared.token.Kind.TheVariants.{Identifier, Integer, Float, Text, Symbol}
use Rattle.pq_lex.specs.declared.token.Span.{Span}
use Rattle.pq_lex.specs.declared.token.Code.{Code}
use Rattle.pq_lex.specs.declared.token.Code.TheVariants.{UnclosedComment, NumberRunsOn, OtherCharacter}
use Rattle.pq_lex.specs.declared.token.Step.{Step}
use Rattle.pq_lex.specs.declared.token.Step.TheVariants.{Pass, Take, Stop}
use Rattle.pq_lex.specs.Classes.{byte, at, class_of, in_set, is_space}
use Rattle.pq_lex.specs.Runs.{run_end}
use Rattle.pq_lex.specs.Tokens.{Piece, Separator, Lexeme, span, opens, closes, ClosesFirst, IsSeparator, order_mark, blanks, line_comment, comment, IsInteger, decimal, octal, hexadecimal, IsExponent, IsFloat, pointed, raised, IsSymbol, Spells, IsLongest, HasNone, runs_on, IsFault, of_comment, of_text, of_other}
use Rattle.pq_lex.specs.aux.Scan.{integer_end, float_end, close_at, text_step, number_step, digit_step, point_step, comment_step, slash_step, is_order_mark, other_step, step_of, step_at}
use Rattle.pq_lex.proofs.RunLemmas.{run_is, run_most, run_stop, close_low, close_none, close_here}
use Rattle.pq_lex.proofs.FirstBytes.{space_class, class_space, quote_class, point_class, slash_class, other_class, of_class, only_letter, only_space, only_other, only_quote, only_mark, either_digit, either_point, either_slash}
use Rattle.pq_lex.proofs.NumberEnds.{inside, inside_at, exponent_most, integer_is, integer_most, float_is, float_most, float_longer}
use Rattle.pq_lex.proofs.StringEnds.{Ends, ends_at, fails_at, text_ends, quoted_is, quoted_within}

-- a number that runs on
pub record Overruns (text : List ℕ) (i : ℕ) (at : Span) (code : Code) : Type 0 where
  pub kind : Kind
  pub end : ℕ
  pub longest : IsLongest text (Lexeme kind) i end
  pub runs : runs_on kind text end ≡ true
  pub here : at ≡ span i end
  pub is : code ≡ NumberRunsOn

-- no piece begins at i, and the error there
pub record Fails (text : List ℕ) (i : ℕ) (at : Span) (code : Code) : Type 0 where
  pub none : HasNone text i
  pub fault : IsFault text i at code

-- `IsStep text i s` is: by the relations of `Tokens`, `s` is the longest piece at offset `i`, or
-- the error there.
abbrev pub IsStep : List ℕ → ℕ → Step → Type 0
IsStep text i (Pass n) = IsLongest text Separator i n
IsStep text i (Take k n) = IsLongest text (Lexeme k) i n × (runs_on k text n ≡ false)
IsStep text i (Stop at code) = Fails text i at code ⊎ Overruns text i at code

-- how far pieces go
module _ (text : List ℕ) (i : ℕ) where
  separator_within : (n : ℕ) → IsSeparator text i n → (i < n) × (n ≤ length text)
  separator_within n (order_mark start end a b c) = (omega (arith, start, end), omega (arith, end, inside_at text 2 0xBF c (omega arith)))
  separator_within n (blanks some r) = (some, r.within)
  separator_within n (line_comment a b r) = (omega (arith, r.ordered), r.within)
  separator_within n (comment o k c end) =
      let t = and_parts (byte text k == 42) (byte text (k + 1) == 47) c.here in
      (omega (arith, end, c.from), omega (arith, end, inside_at text (k + 1) 47 (eqb-true (byte text (k + 1)) 47 t.1) (omega arith)))

  integer_within : (n : ℕ) → IsInteger text i n → (i < n) × (n ≤ length text)
  integer_within n (decimal d z r) = (omega (arith, r.ordered), r.within)
  integer_within n (octal z r) = (omega (arith, r.ordered), r.within)
  integer_within n (hexadecimal z x some r) = (omega (arith, some), r.within)

  exponent_within : (q n : ℕ) → IsExponent text q n → (q < n) × (n ≤ length text)
  exponent_within q n x = (further q x, x.digits.within)
    where
      further : (q : ℕ) → IsExponent text q n → q < n
      further q x = (exponent_most text q n x).0

  pub float_within : (n : ℕ) → IsFloat text i n → (i + 1 < n) × (n ≤ length text)
  float_within n (pointed p q whole point part some end) = elim end [
    | inl same ↦ (omega (arith, same, some), omega (arith, same, part.within))
    | inr x ↦ let w = exponent_within q n x in (omega (arith, some, w.0), w.1)
  ]
  float_within n (raised p some whole x) = let w = exponent_within p n x in (omega (arith, some, w.0), w.1)

  symbol_some : IsSymbol text i (i + 1) → byte text i ≡ 0 → ⊥
  symbol_some s z = let c : at text i ≡ Other = ap class_of z in elim s.mark [
    | inl m ↦ cc
    | inr o ↦ elim o [ inl p ↦ cc | inr q ↦ cc ]
  ]

  pub within : (p : Piece) (n : ℕ) → Spells text p i n → (i < n) × (n ≤ length text)
  within Separator n s = separator_within n s
  within (Lexeme Identifier) n s = (omega (arith, s.others.ordered), s.others.within)
  within (Lexeme Integer) n s = integer_within n s
  within (Lexeme Float) n s = let w = float_within n s in (omega (arith, w.0), w.1)
  within (Lexeme Text) n s = let w = quoted_within text (byte text i) i s.opened n (i + 1) s.rest in (omega (arith, w.0), w.1)
  within (Lexeme Symbol) n s =
      let one : IsSymbol text i (i + 1) = subst (λ k. IsSymbol text i k) s.one s in
      let here = inside text i (symbol_some one) in
      (omega (arith, s.one), omega (arith, s.one, here))

-- the longest piece, where each is at most as long
pub longest_of : (text : List ℕ) (p : Piece) (i n : ℕ) → Spells text p i n → ((q : Piece) (m : ℕ) → Spells text q i m → m ≤ n) → IsLongest text p i n
longest_of text p i n s all = record { spells = s; longest = λ q m less t. let most : m ≤ n = all q m t in absurd (omega (arith, less, most)) }

pub as_sort : (text : List ℕ) (i m : ℕ) (p q : Piece) → p ≡ q → Spells text p i m → Spells text q i m
as_sort text i m p q e s = subst (λ r. Spells text r i m) e s

-- a piece that is taken, whether or not it is a number
numbered : (k : Kind) (text : List ℕ) (i n : ℕ) → IsLongest text (Lexeme k) i n → IsStep text i (number_step k text i n)
numbered k text i n l = cond_both (runs_on k text n) (Stop (span i n) NumberRunsOn) (Take k n) (IsStep text i)
    (λ e. inr (record { kind = k; end = n; longest = l; runs = e; here = refl; is = refl })) (λ e. (l, e))

module _ (text : List ℕ) (i : ℕ) (here : i < length text) where
  letter_step_is : at text i ≡ Letter → IsStep text i (Take Identifier (run_end Words text (i + 1)))
  letter_step_is c = (
    longest_of text (Lexeme Identifier) i (run_end Words text (i + 1)) (record { first = c; others = run_is Words text (i + 1) (omega (arith, here)) })
        (λ q m s. let t = as_sort text i m q (Lexeme Identifier) (only_letter q (of_class text Letter i c q m s)) s in run_most Words text (i + 1) m t.others),
    refl,
  )

  mark_step_is : at text i ≡ Mark → IsStep text i (Take Symbol (i + 1))
  mark_step_is c = (
    longest_of text (Lexeme Symbol) i (i + 1) (record { one = refl; mark = inl c; alone = no_slash })
        (λ q m s. let t = as_sort text i m q (Lexeme Symbol) (only_mark q (of_class text Mark i c q m s)) s in omega (arith, t.one)),
    refl,
  )
    where
      no_slash : opens text i ≡ false
      no_slash = and_left (byte text i == 47) (byte text (i + 1) == 42) (ne_eqb (byte text i) 47 (λ e. let d : at text i ≡ Slash = ap class_of e in cc))

  blank_end : (m : ℕ) → at text i ≡ Space → IsSeparator text i m → m ≤ run_end Spaces text (i + 1)
  blank_end m c (order_mark start end a b d) = let e : at text i ≡ Other = ap class_of (subst (λ k. byte text k ≡ 0xEF) (sym start) a) in cc
  blank_end m c (blanks some r) = run_most Spaces text (i + 1) m (record { ordered = omega (arith, some); within = r.within; all = λ k low high. r.all k (omega (arith, low)) high })
  blank_end m c (line_comment a b r) = let e : at text i ≡ Slash = ap class_of a in cc
  blank_end m c (comment o k d end) = let e : at text i ≡ Slash = ap class_of (eqb-true (byte text i) 47 (and_parts (byte text i == 47) (byte text (i + 1) == 42) o).0) in cc

  space_step_is : at text i ≡ Space → IsStep text i (Pass (run_end Spaces text (i + 1)))
  space_step_is c =
      let r = run_is Spaces text (i + 1) (omega (arith, here)) in
      longest_of text Separator i (run_end Spaces text (i + 1))
      (blanks (omega (arith, r.ordered)) (record {
        ordered = omega (arith, r.ordered);
        within = r.within;
        all = λ k low high. elim (cases_lt i k) [
          | inl more ↦ r.all k (omega (arith, more)) high
          | inr less ↦ let e : i ≡ k = omega (arith, less, low) in subst (λ j. in_set Spaces (byte text j) ≡ true) e (space_class (byte text i) c)
        ];
      }))
      (λ q m s. blank_end m c (as_sort text i m q Separator (only_space q (of_class text Space i c q m s)) s))

  -- numbers
  float_known : (n m : ℕ) → float_end text i ≡ Some n → IsFloat text i m → m ≤ n
  float_known n m e f = let k = float_most text i m f in let same : k.0 ≡ n = cc (k.1, e) in omega (arith, same, k.2)

  float_step_is : (n : ℕ) → float_end text i ≡ Some n → ((q : Piece) (m : ℕ) → Spells text q i m → (m < n) ⊎ (q ≡ Lexeme Float)) → IsStep text i (number_step Float text i n)
  float_step_is n e others = numbered Float text i n (longest_of text (Lexeme Float) i n (float_is text i n (omega (arith, here)) e) (λ q m s. elim (others q m s) [
    | inl less ↦ omega (arith, less)
    | inr same ↦ float_known n m e (as_sort text i m q (Lexeme Float) same s)
  ]))

  no_float : float_end text i ≡ None → (m : ℕ) → IsFloat text i m → ⊥
  no_float e m f = let k = float_most text i m f in let w = k.1 in cc

  digit_step_is : at text i ≡ Digit → (o : Option ℕ) → float_end text i ≡ o → IsStep text i (digit_step text i o)
  digit_step_is c (Some n) e = float_step_is n e (λ q m s. elim (either_digit q (of_class text Digit i c q m s)) [
    | inl same ↦ inl (float_longer text i m n (as_sort text i m q (Lexeme Integer) same s) (float_is text i n (omega (arith, here)) e))
    | inr same ↦ inr same
  ])
  digit_step_is c None e = numbered Integer text i (integer_end text i) (longest_of text (Lexeme Integer) i (integer_end text i) (integer_is text i here c) (λ q m s.
      elim (either_digit q (of_class text Digit i c q m s)) [
        | inl same ↦ integer_most text i m (as_sort text i m q (Lexeme Integer) same s)
        | inr same ↦ absurd (no_float e m (as_sort text i m q (Lexeme Float) same s))
      ]))

  no_open : (b : ℕ) → byte text i ≡ b → (b == 47) ≡ false → opens text i ≡ false
  no_open b e f = and_left (byte text i == 47) (byte text (i + 1) == 42) (ap (λ k. k == 47) e ∙ f)

  point_step_is : at text i ≡ Point → (o : Option ℕ) → float_end text i ≡ o → IsStep text i (point_step text i o)
  point_step_is c (Some n) e = float_step_is n e (λ q m s. elim (either_point q (of_class text Point i c q m s)) [
    | inl same ↦ inl (let t = as_sort text i m q (Lexeme Symbol) same s in let w = (float_within text i n (float_is text i n (omega (arith, here)) e)).0 in omega (arith, t.one, w))
    | inr same ↦ inr same
  ])
  point_step_is c None e = (
    longest_of text (Lexeme Symbol) i (i + 1) (record { one = refl; mark = inr (inl c); alone = no_open 46 (point_class (byte text i) c) refl }) (λ q m s.
        elim (either_point q (of_class text Point i c q m s)) [
          | inl same ↦ let t = as_sort text i m q (Lexeme Symbol) same s in omega (arith, t.one)
          | inr same ↦ absurd (no_float e m (as_sort text i m q (Lexeme Float) same s))
        ]),
    refl,
  )

  -- strings
  text_step_is : at text i ≡ Quote → (s : Step) → Ends text (byte text i) i (i + 1) s → (text_step (length text) (byte text i) i text (i + 1) ≡ s) → IsStep text i s
  text_step_is c s (ends_at n e r) is = subst (IsStep text i) (sym e) (
    longest_of text (Lexeme Text) i n (record { opened = quote_class (byte text i) c; rest = r }) (λ q m t.
        let u = as_sort text i m q (Lexeme Text) (only_quote q (of_class text Quote i c q m t)) t in
        let a = quoted_is text (byte text i) i u.opened m (i + 1) u.rest (length text) (omega arith) in
        let b : m ≡ n = cc in
        omega (arith, b)),
    refl,
  )
  text_step_is c s (fails_at at code e r) is = subst (IsStep text i) (sym e) (inl (record {
    none = λ q m t.
        let u = as_sort text i m q (Lexeme Text) (only_quote q (of_class text Quote i c q m t)) t in
        let a = quoted_is text (byte text i) i u.opened m (i + 1) u.rest (length text) (omega arith) in
        cc;
    fault = of_text (quote_class (byte text i) c) r;
  }))

  -- slashes
  line_only : (m : ℕ) → byte text i ≡ 47 → byte text (i + 1) ≡ 47 → IsSeparator text i m → m ≤ run_end Lines text (i + 2)
  line_only m s t (order_mark start end a b d) = let e = subst (λ k. byte text k ≡ 0xEF) (sym start) a in let f : 47 ≡ 0xEF = sym s ∙ e in absurd (omega (arith, f))
  line_only m s t (blanks some r) = let e = ap is_space s in absurd (both_ways (is_space (byte text i)) e (r.all i (omega arith) some))
  line_only m s t (line_comment a b r) = run_most Lines text (i + 2) m r
  line_only m s t (comment o k d end) =
      let e = eqb-true (byte text (i + 1)) 42 (and_parts (byte text i == 47) (byte text (i + 1) == 42) o).1 in
      let f : 47 ≡ 42 = sym t ∙ e in absurd (omega (arith, f))

  comment_only : (m : ℕ) → byte text i ≡ 47 → byte text (i + 1) ≡ 42 → IsSeparator text i m → (k : ℕ) × ClosesFirst text (i + 2) k × (m ≡ k + 2)
  comment_only m s t (order_mark start end a b d) = let e = subst (λ k. byte text k ≡ 0xEF) (sym start) a in let f : 47 ≡ 0xEF = sym s ∙ e in absurd (omega (arith, f))
  comment_only m s t (blanks some r) = let e = ap is_space s in absurd (both_ways (is_space (byte text i)) e (r.all i (omega arith) some))
  comment_only m s t (line_comment a b r) = let f : 42 ≡ 47 = sym t ∙ b in absurd (omega (arith, f))
  comment_only m s t (comment o k d end) = (k, d, end)

  no_comment : (m : ℕ) → byte text i ≡ 47 → (byte text (i + 1) == 47) ≡ false → (byte text (i + 1) == 42) ≡ false → IsSeparator text i m → ⊥
  no_comment m s t u (order_mark start end a b d) = let e = subst (λ k. byte text k ≡ 0xEF) (sym start) a in let f : 47 ≡ 0xEF = sym s ∙ e in omega (arith, f)
  no_comment m s t u (blanks some r) = let e = ap is_space s in both_ways (is_space (byte text i)) e (r.all i (omega arith) some)
  no_comment m s t u (line_comment a b r) = both_ways (byte text (i + 1) == 47) t (eq-eqb (byte text (i + 1)) 47 b)
  no_comment m s t u (comment o k d end) = both_ways (byte text (i + 1) == 42) u (and_parts (byte text i == 47) (byte text (i + 1) == 42) o).1

  opens_here : byte text i ≡ 47 → byte text (i + 1) ≡ 42 → opens text i ≡ true
  opens_here s t = and_from (byte text i == 47) (byte text (i + 1) == 42) (eq-eqb (byte text i) 47 s) (eq-eqb (byte text (i + 1)) 42 t)

  comment_step_is : at text i ≡ Slash → byte text i ≡ 47 → byte text (i + 1) ≡ 42 → IsStep text i (comment_step text i (close_at text (i + 2)))
  comment_step_is c s t =
      let o = opens_here s t in
      let k = close_at text (i + 2) in
      cond_both (nat_lt k (length text)) (Pass (k + 2)) (Stop (span i (i + 2)) UnclosedComment) (IsStep text i)
      (λ e. let less = ltb-true k (length text) e in
      longest_of text Separator i (k + 2) (comment o k (record { from = close_low text (i + 2); here = close_here text (i + 2) less; before = λ j low high. close_none text (i + 2) j low high }) refl)
      (λ q m r. elim (either_slash q (of_class text Slash i c q m r)) [
        | inl same ↦ let u = as_sort text i m q (Lexeme Symbol) same r in absurd (both_ways (opens text i) u.alone o)
        | inr same ↦
            let u = comment_only m s t (as_sort text i m q Separator same r) in
            elim (cases_lt k u.0) [
              | inl later ↦ absurd (both_ways (closes text k) (u.1.before k (close_low text (i + 2)) later) (close_here text (i + 2) less))
              | inr sooner ↦ omega (arith, u.2, sooner)
            ]
      ]))
      (λ e. let past = ltb-false k (length text) e in
      inl (record {
        none = λ q m r. elim (either_slash q (of_class text Slash i c q m r)) [
          | inl same ↦ let u = as_sort text i m q (Lexeme Symbol) same r in absurd (both_ways (opens text i) u.alone o)
          | inr same ↦
              let u = comment_only m s t (as_sort text i m q Separator same r) in
              let w = (within text i Separator m (as_sort text i m q Separator same r)).1 in
              both_ways (closes text u.0) (close_none text (i + 2) u.0 u.1.from (omega (arith, past, w, u.2))) u.1.here
        ];
        fault = of_comment o refl refl;
      }))

  slash_step_is : at text i ≡ Slash → IsStep text i (slash_step text i)
  slash_step_is c =
      let s = slash_class (byte text i) c in
      cond_both (byte text (i + 1) == 47) (Pass (run_end Lines text (i + 2))) (cond (byte text (i + 1) == 42) (comment_step text i (close_at text (i + 2))) (Take Symbol (i + 1))) (IsStep text i)
      (λ e. let t = eqb-true (byte text (i + 1)) 47 e in
      let two = inside_at text (i + 1) 47 t (omega arith) in
      let r = run_is Lines text (i + 2) (omega (arith, two)) in
      longest_of text Separator i (run_end Lines text (i + 2)) (line_comment s t r)
      (λ q m p. elim (either_slash q (of_class text Slash i c q m p)) [
        | inl same ↦ let u = as_sort text i m q (Lexeme Symbol) same p in omega (arith, u.one, r.ordered)
        | inr same ↦ line_only m s t (as_sort text i m q Separator same p)
      ]))
      (λ e. cond_both (byte text (i + 1) == 42) (comment_step text i (close_at text (i + 2))) (Take Symbol (i + 1)) (IsStep text i)
      (λ f. comment_step_is c s (eqb-true (byte text (i + 1)) 42 f))
      (λ f. (
        longest_of text (Lexeme Symbol) i (i + 1) (record { one = refl; mark = inr (inr c); alone = and_right (byte text i == 47) (byte text (i + 1) == 42) f })
            (λ q m p. elim (either_slash q (of_class text Slash i c q m p)) [
              | inl same ↦ let u = as_sort text i m q (Lexeme Symbol) same p in omega (arith, u.one)
              | inr same ↦ absurd (no_comment m s e f (as_sort text i m q Separator same p))
            ]),
        refl,
      )))

  -- what begins nothing
  mark_only : (m : ℕ) → at text i ≡ Other → IsSeparator text i m → (is_order_mark text i ≡ true) × (m ≡ 3)
  mark_only m c (order_mark start end a b d) = (and_from (i == 0) _ (eq-eqb i 0 start) (and_from (byte text 0 == 0xEF) _ (eq-eqb (byte text 0) 0xEF a) (and_from (byte text 1 == 0xBB) (byte text 2 == 0xBF) (eq-eqb (byte text 1) 0xBB b) (eq-eqb (byte text 2) 0xBF d))), end)
  mark_only m c (blanks some r) = let e : at text i ≡ Space = class_space (byte text i) (r.all i (omega arith) some) in cc
  mark_only m c (line_comment a b r) = let e : at text i ≡ Slash = ap class_of a in cc
  mark_only m c (comment o k d end) = let e : at text i ≡ Slash = ap class_of (eqb-true (byte text i) 47 (and_parts (byte text i == 47) (byte text (i + 1) == 42) o).0) in cc

  tail_stop : in_set Continuations (byte text (run_end Continuations text (i + 1))) ≡ false
  tail_stop = elim (cases_lt (run_end Continuations text (i + 1)) (length text)) [
    | inl less ↦ run_stop Continuations text (i + 1) less
    | inr past ↦ ap (in_set Continuations) (get_or_past text (run_end Continuations text (i + 1)) 0 past)
  ]

  other_step_is : at text i ≡ Other → IsStep text i (other_step text i)
  other_step_is c = cond_both (is_order_mark text i) (Pass 3) (Stop (span i (run_end Continuations text (i + 1))) OtherCharacter) (IsStep text i)
      (λ e. let t = and_parts (i == 0) _ e in
      let u = and_parts (byte text 0 == 0xEF) _ t.1 in
      let v = and_parts (byte text 1 == 0xBB) (byte text 2 == 0xBF) u.1 in
      longest_of text Separator i 3 (order_mark (eqb-true i 0 t.0) refl (eqb-true (byte text 0) 0xEF u.0) (eqb-true (byte text 1) 0xBB v.0) (eqb-true (byte text 2) 0xBF v.1))
      (λ q m s. omega (arith, (mark_only m c (as_sort text i m q Separator (only_other q (of_class text Other i c q m s)) s)).1)))
      (λ e. let o = other_class (byte text i) c in
      inl (record {
        none = λ q m s. both_ways (is_order_mark text i) e (mark_only m c (as_sort text i m q Separator (only_other q (of_class text Other i c q m s)) s)).0;
        fault = of_other (and_left (byte text i == 47) (byte text (i + 1) == 42) o.1) o.0 (run_end Continuations text (i + 1)) (record { others = run_is Continuations text (i + 1) (omega (arith, here)); stop = tail_stop }) refl refl;
      }))

  of_each : (c : Class) → at text i ≡ c → IsStep text i (step_of text i c)
  of_each Letter e = letter_step_is e
  of_each Digit e = digit_step_is e (float_end text i) refl
  of_each Space e = space_step_is e
  of_each Quote e = text_step_is e _ (text_ends text (byte text i) i (quote_class (byte text i) e) (length text) (i + 1) (omega arith)) refl
  of_each Point e = point_step_is e (float_end text i) refl
  of_each Slash e = slash_step_is e
  of_each Mark e = mark_step_is e
  of_each Other e = other_step_is e

  pub computed_step : IsStep text i (step_at text i)
  unfolding step_at
  computed_step = of_each (at text i) refl
