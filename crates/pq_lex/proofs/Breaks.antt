-- The lines of a text by the places of its LFs and CRs.
use Rattle.std.proofs.Common.{◌≡◌, ◌⊎◌, inl, inr, ℕ, zero, suc, ◌+◌, ◌-◌, ◌<◌, ◌≤◌, ◌==◌, ◌&&◌, Bool, true, false, cond, List, [], ◌∷◌, ◌++◌, length, drop, map, get_or, slice_range, refl, sym, ◌∙◌, ap, subst, arith}
use Rattle.std.proofs.lemmas.Bool.{both_ways, cases_order}
use Rattle.std.proofs.lemmas.List.{map-append}
use Rattle.memchr.specs.Find.{is_byte2, places_from, places_between}
use Rattle.pq_lex.specs.Lines.{end_of_line}
use Rattle.pq_lex.specs.aux.LineMarks.{LineMark, starts_to, units_kept, mark, lines_of}
use Rattle.pq_lex.proofs.LineLen.{is_break}
use Rattle.pq_lex.proofs.LineFacts.{bool_cases, break_at, plain_at, end_within, last_line, next_line}

-- the first of the places, and the others
record Head (text : List ℕ) (i n x : ℕ) (xs : List ℕ) : Type 0 where
  pub low : i ≤ x
  pub high : x < i + n
  pub breaks : is_break (get_or text x 0) ≡ true
  pub before : (j : ℕ) → i ≤ j → j < x → is_break (get_or text j 0) ≡ false
  pub rest : xs ≡ places_between (is_byte2 10 13) text (x + 1) (i + n)

abbrev found_in : List ℕ → ℕ → ℕ → List ℕ
found_in text i j = places_between (is_byte2 10 13) text i j

module _ (text : List ℕ) where
  head_here : (i n x : ℕ) (xs : List ℕ) → is_break (get_or text i 0) ≡ true → i ∷ places_from (is_byte2 10 13) text (i + 1) n ≡ x ∷ xs → Head text i (suc n) x xs
  head_here i n x xs br e =
      let same : i ≡ x = ap (λ l. get_or l 0 0) e in
      let rest : places_from (is_byte2 10 13) text (i + 1) n ≡ xs = ap (drop 1) e in
      record {
        low = omega (arith, same);
        high = omega (arith, same);
        breaks = subst (λ k. is_break (get_or text k 0) ≡ true) same br;
        before = λ j a b. absurd (omega (arith, a, b, same));
        rest = sym rest ∙ ap (λ k. places_from (is_byte2 10 13) text (k + 1) n) same ∙ ap (places_from (is_byte2 10 13) text (x + 1)) (let z : n ≡ i + suc n - (x + 1) = omega (arith, same) in z);
      }

  head_later : (i n x : ℕ) (xs : List ℕ) → is_break (get_or text i 0) ≡ false → Head text (i + 1) n x xs → Head text i (suc n) x xs
  head_later i n x xs br h = record {
    low = let l = h.low in omega (arith, l);
    high = let l = h.high in omega (arith, l);
    breaks = h.breaks;
    before = λ j a b. elim (cases_order i j) [
      | inl same ↦ subst (λ k. is_break (get_or text k 0) ≡ false) same br
      | inr o ↦ elim o [
        | inl less ↦ h.before j (omega (arith, less)) b
        | inr more ↦ absurd (omega (arith, a, more))
      ]
    ];
    rest = h.rest ∙ ap (places_between (is_byte2 10 13) text (x + 1)) (let z : i + 1 + n ≡ i + suc n = omega arith in z);
  }

  places_here : (i n : ℕ) → is_break (get_or text i 0) ≡ true → places_from (is_byte2 10 13) text i (suc n) ≡ i ∷ places_from (is_byte2 10 13) text (i + 1) n
  unfolding places_from
  places_here i n h = rw h refl

  places_later : (i n : ℕ) → is_break (get_or text i 0) ≡ false → places_from (is_byte2 10 13) text i (suc n) ≡ places_from (is_byte2 10 13) text (i + 1) n
  unfolding places_from
  places_later i n h = rw h refl

  no_places : (i : ℕ) → places_from (is_byte2 10 13) text i 0 ≡ []
  unfolding places_from
  no_places i = refl

  head_of : (i n x : ℕ) (xs : List ℕ) → places_from (is_byte2 10 13) text i n ≡ x ∷ xs → Head text i n x xs
  head_of i zero x xs e = let z : [] ≡ x ∷ xs = sym (no_places i) ∙ e in cc
  head_of i (suc n) x xs e = elim (bool_cases (is_break (get_or text i 0))) [
    | inl br ↦ head_here i n x xs br (sym (places_here i n br) ∙ e)
    | inr br ↦ head_later i n x xs br (head_of (i + 1) n x xs (sym (places_later i n br) ∙ e))
  ]

  none_of : (i n : ℕ) → places_from (is_byte2 10 13) text i n ≡ [] → (j : ℕ) → i ≤ j → j < i + n → is_break (get_or text j 0) ≡ false
  none_of i zero e j low high = absurd (omega (arith, low, high))
  none_of i (suc n) e j low high = elim (bool_cases (is_break (get_or text i 0))) [
    | inl br ↦ let z : i ∷ places_from (is_byte2 10 13) text (i + 1) n ≡ [] = sym (places_here i n br) ∙ e in cc
    | inr br ↦ elim (cases_order i j) [
      | inl same ↦ subst (λ k. is_break (get_or text k 0) ≡ false) same br
      | inr o ↦ elim o [
        | inl less ↦ none_of (i + 1) n (sym (places_later i n br) ∙ e) j (omega (arith, less)) (omega (arith, high))
        | inr more ↦ absurd (omega (arith, low, more))
      ]
    ]
  ]

  -- the end of a line is the first LF or CR from its start on
  end_one : (s e : ℕ) → s ≤ e → e ≤ length text → ((j : ℕ) → s ≤ j → j < e → is_break (get_or text j 0) ≡ false) → (e < length text → is_break (get_or text e 0) ≡ true) → end_of_line text s ≡ e
  end_one s e le within plain br =
      let ends = end_within text s (omega (arith, le, within)) in
      elim (cases_order (end_of_line text s) e) [
        | inl same ↦ same
        | inr o ↦ elim o [
          | inl less ↦ absurd (both_ways (is_break (get_or text (end_of_line text s) 0)) (plain (end_of_line text s) (omega arith) less) (break_at text s (omega (arith, le, within)) (omega (arith, less, within))))
          | inr more ↦ absurd (both_ways (is_break (get_or text e 0)) (plain_at text s e le more) (br (omega (arith, more, ends))))
        ]
      ]

  -- the places from an offset on: the start of a line, or that of the LF before it
  pub record Left (start : ℕ) (rest : List ℕ) : Type 0 where
    pub at : ℕ
    pub within : at ≤ length text
    pub is : rest ≡ found_in text at (length text)
    pub from : (at ≡ start) ⊎ ((suc at ≡ start) × (is_break (get_or text at 0) ≡ true))

  pub all_left : (rest : List ℕ) → rest ≡ found_in text 0 (length text) → Left 0 rest
  all_left rest e = record { at = 0; within = omega arith; is = e; from = inl refl }

  next_head : (start end : ℕ) (rest more : List ℕ) → (l : Left start rest) → rest ≡ end ∷ more → Head text l.at (length text - l.at) end more
  next_head start end rest more l e = head_of l.at (length text - l.at) end more (sym l.is ∙ e)

  to_end : (at : ℕ) → at ≤ length text → at + (length text - at) ≡ length text
  to_end at h = omega (arith, h)

  no_break_twice : (at end : ℕ) (n : ℕ) (more : List ℕ) → Head text at n end more → is_break (get_or text at 0) ≡ true → end ≡ at
  no_break_twice at end n more h br = elim (cases_order at end) [
    | inl same ↦ sym same
    | inr o ↦ elim o [
      | inl less ↦ absurd (both_ways (is_break (get_or text at 0)) (h.before at (omega arith) less) br)
      | inr above ↦ let l = h.low in absurd (omega (arith, above, l))
    ]
  ]

  pub skipped : (start end : ℕ) (rest more : List ℕ) → Left start rest → rest ≡ end ∷ more → end < start → Left start more
  skipped start end rest more l e less =
      let h = next_head start end rest more l e in
      let low = h.low in
      let high = h.high in
      elim l.from [
        | inl same ↦ absurd (omega (arith, same, less, low))
        | inr p ↦
            let here = no_break_twice l.at end _ more h p.1 in
            let past : end + 1 ≡ start = omega (arith, here, p.0) in
            record {
              at = start;
              within = let w = l.within in omega (arith, past, high, w);
              is = h.rest ∙ ap (found_in text (end + 1)) (to_end l.at l.within) ∙ ap (λ k. found_in text k (length text)) past;
              from = inl refl;
            }
      ]

  pub record Taken (start end : ℕ) (more : List ℕ) : Type 0 where
    pub is : end_of_line text start ≡ end
    pub inside : end < length text
    pub goes : (t : ℕ) → t ≡ cond (get_or text end 0 == 13 && (get_or text (end + 1) 0 == 10)) (end + 2) (end + 1) → Left t more

  second_breaks : (p : Bool) (b : ℕ) → (p && (b == 10)) ≡ true → is_break b ≡ true
  second_breaks true b h = rw h refl
  second_breaks false b h = cc

  after : (end t : ℕ) (more : List ℕ) → end < length text → more ≡ found_in text (end + 1) (length text) → (b : Bool) → (get_or text end 0 == 13 && (get_or text (end + 1) 0 == 10)) ≡ b → t ≡ cond b (end + 2) (end + 1) → Left t more
  after end t more less is true c e = record { at = end + 1; within = omega (arith, less); is = is; from = inr (omega (arith, e), second_breaks (get_or text end 0 == 13) (get_or text (end + 1) 0) c) }
  after end t more less is false c e = record { at = end + 1; within = omega (arith, less); is = is; from = inl (sym e) }

  pub taken : (start end : ℕ) (rest more : List ℕ) → Left start rest → rest ≡ end ∷ more → start ≤ end → Taken start end more
  taken start end rest more l e le =
      let h = next_head start end rest more l e in
      let w = l.within in
      let high = h.high in
      let inside : end < length text = omega (arith, high, w) in
      let same : l.at ≡ start = elim l.from [ inl s ↦ s | inr p ↦ absurd (let here = no_break_twice l.at end _ more h p.1 in omega (arith, here, p.0, le)) ] in
      record {
        is = end_one start end le (omega (arith, inside)) (λ j low less. h.before j (omega (arith, low, same)) less) (λ _. h.breaks);
        inside = inside;
        goes = λ t c. after end t more inside (h.rest ∙ ap (found_in text (end + 1)) (to_end l.at l.within)) (get_or text end 0 == 13 && (get_or text (end + 1) 0 == 10)) refl c;
      }

  pub ended : (start : ℕ) (rest : List ℕ) → Left start rest → rest ≡ [] → start ≤ length text → end_of_line text start ≡ length text
  ended start rest l e le =
      let w = l.within in
      let low : l.at ≤ start = elim l.from [ inl s ↦ omega (arith, s) | inr p ↦ omega (arith, p.0) ] in
      end_one start (length text) le (omega arith) (λ j a b. none_of l.at (length text - l.at) (sym l.is ∙ e) j (omega (arith, a, low)) (omega (arith, b, w))) (λ h. absurd (omega (arith, h)))

-- the lines so far, and one more
pub whole_text : (ms : List LineMark) (text : List ℕ) (s end : ℕ) → s ≤ length text → end_of_line text s ≡ end → end ≡ length text → ms ++ mark text s ∷ [] ≡ map (mark text) (starts_to text s) → ms ++ record { start = s; end = end; units = units_kept (slice_range text s end) } ∷ [] ≡ lines_of text
whole_text ms text s end within is e made =
    ap (λ x. ms ++ record { start = s; end = x; units = units_kept (slice_range text s x) } ∷ []) (sym is)
    ∙ made ∙ ap (map (mark text)) (sym (last_line text s within (is ∙ e)))

pub one_more_line : (ms more : List LineMark) (text : List ℕ) (s end t : ℕ) → s ≤ length text → end_of_line text s ≡ end → end < length text → t ≡ cond (get_or text end 0 == 13 && (get_or text (end + 1) 0 == 10)) (end + 2) (end + 1) → ms ++ mark text s ∷ [] ≡ map (mark text) (starts_to text s)
    → more ≡ ms ++ record { start = s; end = end; units = units_kept (slice_range text s end) } ∷ [] → more ++ mark text t ∷ [] ≡ map (mark text) (starts_to text t)
one_more_line ms more text s end t within is less e made pushed =
    let next = next_line text s t within (subst (λ x. x < length text) (sym is) less) (subst (λ x. t ≡ cond (get_or text x 0 == 13 && (get_or text (x + 1) 0 == 10)) (x + 2) (x + 1)) (sym is) e) in
    ap (λ ys. ys ++ mark text t ∷ []) (pushed ∙ ap (λ x. ms ++ record { start = s; end = x; units = units_kept (slice_range text s x) } ∷ []) (sym is) ∙ made)
    ∙ sym (map-append (mark text) (starts_to text s) (t ∷ [])) ∙ ap (map (mark text)) (sym next.1)

pub first_line : (text : List ℕ) → mark text 0 ∷ [] ≡ map (mark text) (starts_to text 0)
unfolding starts_to
first_line text = refl
