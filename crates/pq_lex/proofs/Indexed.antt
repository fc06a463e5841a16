-- What a line of an index says of the text, and what it answers.
use Rattle.std.proofs.Common.{◌≡◌, inl, inr, ℕ, ◌+◌, ◌-◌, ◌*◌, ◌<◌, ◌≤◌, true, false, List, [], ◌∷◌, length, map, min, sum, take, get_or, slice_range, refl, sym, ◌∙◌, ap, subst, arith}
use Rattle.std.proofs.lemmas.List.{get_or-map, length-map}
use Rattle.std.proofs.lemmas.Bool.{cases_order}
use Rattle.pq_lex.specs.declared.position.Position.{Position}
use Rattle.pq_lex.specs.Classes.{is_continuation}
use Rattle.pq_lex.specs.Lines.{starts_line, line_number, line_start, line_end, end_of_line, character_start, units_of, units, position_of, IsBefore}
use Rattle.pq_lex.specs.aux.LineMarks.{LineMark, starts_to, units_kept, mark, lines_of, kept_column, lead_index, IsByte}
use Rattle.pq_lex.proofs.LineFacts.{bool_cases, end_within, same_start, same_number}
use Rattle.pq_lex.proofs.Positions.{at_line, line_facts, start_below}
use Rattle.pq_lex.proofs.Columns.{kept_sum, kept_length, end_starts, starts_character, line_length, row_length, unit_at, lead_is, column_is, kept_is, continuation_unit}
use Rattle.pq_lex.proofs.UnitLemmas.{lead_stop}

pub mark_start : (text : List ℕ) (xs : List ℕ) → map (λ m. m.start) (map (mark text) xs) ≡ xs
mark_start text [] = refl
mark_start text (x ∷ xs) = ap (λ ys. x ∷ ys) (mark_start text xs)

abbrev pub start_list : List LineMark → List ℕ
start_list ms = map (λ m. m.start) ms

beyond : (a b : ℕ) → a < b → b ≤ a → ⊥
beyond a b h g = omega (arith, h, g)

zero_number : (text : List ℕ) → line_number text 0 ≡ 0
unfolding line_number
zero_number text = refl

module _ (ms : List LineMark) (text : List ℕ) (are : ms ≡ lines_of text) where
  pub starts_are : start_list ms ≡ starts_to text (length text)
  starts_are = ap start_list are ∙ mark_start text (starts_to text (length text))

  pub count_is : length ms ≡ length (starts_to text (length text))
  count_is = ap length are ∙ length-map (starts_to text (length text)) (mark text)

  -- the line of that number
  pub line_is : (k : ℕ) (m : LineMark) → k < length ms → m ≡ get_or ms k m → m ≡ mark text (get_or (starts_to text (length text)) k 0)
  line_is k m h e =
      e ∙ ap (λ xs. get_or xs k m) are
      ∙ get_or-map (mark text) (starts_to text (length text)) k 0 m (omega (arith, h, count_is))

  pub some_line : 0 < length ms
  some_line = let a = at_line text 0 (length text) (omega arith) in omega (arith, a.0, count_is)

  pub first_start : (o : ℕ) → get_or (start_list ms) 0 0 ≤ o
  first_start o =
      let a = line_facts text (length text) 0 (omega (arith, some_line, count_is)) in
      let b = at_line text 0 (length text) (omega arith) in
      let c = start_below text 0 in
      let n : line_number text 0 ≡ 0 = zero_number text in
      let e : get_or (start_list ms) 0 0 ≡ get_or (starts_to text (length text)) (line_number text 0) 0 = ap (λ xs. get_or xs 0 0) starts_are ∙ ap (λ k. get_or (starts_to text (length text)) k 0) (sym n) in
      omega (arith, e, b.1, c)

  -- what is known of a line's fields
  pub record Fields (m : LineMark) : Type 0 where
    pub ordered : m.start ≤ m.end
    pub inside : m.end ≤ length text
    pub full : 0 < length m.units → length m.units ≡ m.end - m.start
    pub small : sum m.units ≤ 2 * length text

  pub fields : (k : ℕ) (m : LineMark) → k < length ms → m ≡ get_or ms k m → Fields m
  fields k m h e =
      let s : ℕ = get_or (starts_to text (length text)) k 0 in
      let is = line_is k m h e in
      let f = line_facts text (length text) k (omega (arith, h, count_is)) in
      let ends = end_within text s f.2 in
      let len : length (slice_range text s (end_of_line text s)) ≡ end_of_line text s - s = line_length text s (end_of_line text s) (omega arith) ends (end_starts text s f.2) in
      let b = kept_sum (slice_range text s (end_of_line text s)) in
      subst Fields (sym is) (record {
        ordered = omega arith;
        inside = ends;
        full = λ q. kept_length (slice_range text s (end_of_line text s)) q ∙ len;
        small = omega (arith, b, len, ends);
      })

module _ (text : List ℕ) (s : ℕ) (within : s ≤ length text) where
  ends : end_of_line text s ≤ length text
  ends = end_within text s within

  -- the column of an offset of the line
  pub column_at : (o : ℕ) → s ≤ o → kept_column (units_kept (slice_range text s (end_of_line text s))) (min o (end_of_line text s) - s) ≡ units (slice_range text s (character_start text (min o (end_of_line text s))))
  column_at o le =
      let small : min o (end_of_line text s) - s ≤ end_of_line text s - s = omega arith in
      let len : length (slice_range text s (end_of_line text s)) ≡ end_of_line text s - s = line_length text s (end_of_line text s) (omega arith) ends (end_starts text s within) in
      let sum_is : s + (min o (end_of_line text s) - s) ≡ min o (end_of_line text s) = omega (arith, le) in
      kept_is (slice_range text s (end_of_line text s)) (min o (end_of_line text s) - s) (omega (arith, len, small))
      ∙ column_is text s (end_of_line text s) (omega arith) ends (end_starts text s within) (min o (end_of_line text s) - s) small
      ∙ ap (λ k. units (slice_range text s (character_start text k))) sum_is

  -- on the line
  module _ (begins : starts_line text s ≡ true) where
    stop : is_continuation (get_or text (end_of_line text s) 0) ≡ false
    stop = end_starts text s within

    pub column_there : (o : ℕ) → s ≤ o → o ≤ end_of_line text s → (position_of text o).character ≡ units (slice_range text s (character_start text o))
    column_there o le less =
        let from : line_start text o ≡ s = same_start text s o begins le less in
        let at : min o (line_end text o) ≡ o = ap (λ k. min o (end_of_line text k)) from ∙ (let m : min o (end_of_line text s) ≡ o = omega (arith, less) in m) in
        ap (λ k. units (slice_range text k (character_start text (min o (line_end text o))))) from ∙ ap (λ k. units (slice_range text s (character_start text k))) at

    -- the first byte of a character after the line's start
    column_sum : (r : ℕ) → r ≤ end_of_line text s - s → lead_index (map units_of (slice_range text s (end_of_line text s))) r ≡ r → (position_of text (s + r)).character ≡ sum (take r (map units_of (slice_range text s (end_of_line text s))))
    column_sum r h f =
        column_there (s + r) (omega arith) (omega (arith, h))
        ∙ sym (column_is text s (end_of_line text s) (omega arith) ends stop r h)
        ∙ ap (λ k. sum (take k (map units_of (slice_range text s (end_of_line text s))))) f

    byte_starts : (r : ℕ) → r ≤ end_of_line text s - s → (r < length (map units_of (slice_range text s (end_of_line text s))) → get_or (map units_of (slice_range text s (end_of_line text s))) r 0 ≡ 0 → ⊥) → is_continuation (get_or text (s + r) 0) ≡ false
    byte_starts r h first = elim (bool_cases (is_continuation (get_or text (s + r) 0))) [
      | inr here ↦ here
      | inl more ↦ elim (cases_order r (end_of_line text s - s)) [
        | inl same ↦ subst (λ k. is_continuation (get_or text k 0) ≡ false) (let e : end_of_line text s ≡ s + r = omega (arith, same) in e) stop
        | inr o ↦ elim o [
          | inl less ↦ absurd (first (omega (arith, less, row_length text s (end_of_line text s) (omega arith) ends stop)) (unit_at text s (end_of_line text s) (omega arith) ends stop r less ∙ continuation_unit (get_or text (s + r) 0) more))
          | inr above ↦ absurd (omega (arith, above, h))
        ]
      ]
    ]

    pub offset_is : (p : Position) (r : ℕ) → line_number text s ≡ p.line → IsByte (map units_of (slice_range text s (end_of_line text s))) p.character r → IsBefore text p (s + r) × ((q : ℕ) → IsBefore text p q → q ≤ s + r)
    offset_is p r line byte =
        let len : length (map units_of (slice_range text s (end_of_line text s))) ≡ end_of_line text s - s = row_length text s (end_of_line text s) (omega arith) ends stop in
        let h : r ≤ end_of_line text s - s = omega (arith, byte.within, len) in
        let from : line_start text (s + r) ≡ s = same_start text s (s + r) begins (omega arith) (omega (arith, h)) in
        let f : lead_index (map units_of (slice_range text s (end_of_line text s))) r ≡ r = lead_stop (map units_of (slice_range text s (end_of_line text s))) r byte.start in
        let e : line_end text (s + r) ≡ end_of_line text s = ap (end_of_line text) from in
        let column : (position_of text (s + r)).character ≡ sum (take r (map units_of (slice_range text s (end_of_line text s)))) = column_sum r h f in (
          record {
            within = omega (arith, h, ends);
            start = starts_character text (s + r) (byte_starts r h byte.start);
            ahead = omega (arith, h, e);
            line = same_number text s (s + r) (omega arith) (omega (arith, h)) ∙ line;
            column = subst (λ k. k ≤ p.character) (sym column) byte.fits;
          },
          λ q b. last q b h,
        )
      where
        last : (q : ℕ) → IsBefore text p q → r ≤ end_of_line text s - s → q ≤ s + r
        last q b h =
            let len : length (map units_of (slice_range text s (end_of_line text s))) ≡ end_of_line text s - s = row_length text s (end_of_line text s) (omega arith) ends stop in
            let same : line_number text q ≡ line_number text s = b.line ∙ sym line in
            let here : line_start text s ≡ s = same_start text s s begins (omega arith) (omega arith) in
            let from : line_start text q ≡ s =
            sym (at_line text q (length text) b.within).1 ∙ ap (λ k. get_or (starts_to text (length text)) k 0) same ∙ (at_line text s (length text) within).1 ∙ here in
            let low : line_start text q ≤ q = start_below text q in
            let high : line_end text q ≡ end_of_line text s = ap (end_of_line text) from in
            let sum_is : s + (q - s) ≡ q = omega (arith, low, from) in
            let small : q - s ≤ end_of_line text s - s = omega (arith, b.ahead, high) in
            let f : character_start text (s + (q - s)) - s ≡ lead_index (map units_of (slice_range text s (end_of_line text s))) (q - s) = lead_is text s (end_of_line text s) (omega arith) ends stop (q - s) small in
            let c : character_start text (s + (q - s)) ≡ q = ap (character_start text) sum_is ∙ b.start in
            let fl : lead_index (map units_of (slice_range text s (end_of_line text s))) (q - s) ≡ q - s = omega (arith, f, c) in
            let column : (position_of text (s + (q - s))).character ≡ sum (take (q - s) (map units_of (slice_range text s (end_of_line text s)))) = column_sum (q - s) small fl in
            let fits : (position_of text (s + (q - s))).character ≤ p.character = subst (λ k. (position_of text k).character ≤ p.character) (sym sum_is) b.column in
            elim (cases_order q (s + r)) [
              | inl e ↦ omega (arith, e)
              | inr o ↦ elim o [
                | inl less ↦ omega (arith, less)
                | inr more ↦
                    let past : p.character < sum (take (q - s) (map units_of (slice_range text s (end_of_line text s)))) = byte.most (q - s) (omega (arith, more)) (omega (arith, small, len)) in
                    absurd (beyond _ _ (subst (λ k. p.character < k) (sym column) past) fits)
              ]
            ]
