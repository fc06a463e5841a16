-- The offset of a position: there is at most one, and that of a character's start is the start.
use Rattle.std.proofs.Common.{◌≡◌, inl, inr, ℕ, ◌+◌, ◌-◌, ◌<◌, ◌≤◌, false, List, length, map, min, sum, take, drop, get_or, slice_range, Option, Some, None, refl, sym, ◌∙◌, ap, arith, length-drop}
use Rattle.std.proofs.lemmas.List.{get_or-drop, get_or-map, length-map, take-map}
use Rattle.std.proofs.lemmas.Bool.{cases_order}
use Rattle.std.proofs.lemmas.Bool.Decides.{nat_tests}
use Rattle.pq_lex.specs.declared.position.Position.{Position}
use Rattle.pq_lex.specs.Classes.{is_continuation}
use Rattle.pq_lex.specs.Lines.{line_number, line_start, line_end, character_start, units_of, units, position_of, IsBefore, IsOffset}
use Rattle.pq_lex.specs.aux.LineMarks.{starts_to}
use Rattle.pq_lex.proofs.Positions.{at_line, start_below}
use Rattle.pq_lex.proofs.Columns.{starts_character}
use Rattle.pq_lex.proofs.UnitLemmas.{sum_take, sum_take_le}

between : (a b : ℕ) → a ≤ b → b ≤ a → a ≡ b
between a b h g = omega (arith, h, g)

beyond : (a b : ℕ) → a < b → b ≤ a → ⊥
beyond a b h g = omega (arith, h, g)

pub one : (text : List ℕ) (p : Position) (a b : Option ℕ) → IsOffset text p a → IsOffset text p b → a ≡ b
one text p None None h g = refl
one text p None (Some b) h g = absurd (h b g.0.within g.0.line)
one text p (Some a) None h g = absurd (g a h.0.within h.0.line)
one text p (Some a) (Some b) h g = ap Some (between a b (g.1 a h.0) (h.1 b g.0))

some_unit : (b : ℕ) → is_continuation b ≡ false → 0 < units_of b
some_unit b h = grind (arith, nat_tests)

module _ (text : List ℕ) where
  -- offsets of one number are on one line
  one_start : (a b : ℕ) → a ≤ length text → b ≤ length text → line_number text a ≡ line_number text b → line_start text a ≡ line_start text b
  one_start a b h g e = sym (at_line text a (length text) h).1 ∙ ap (λ k. get_or (starts_to text (length text)) k 0) e ∙ (at_line text b (length text) g).1

  -- the column of a character's start
  column : (s o : ℕ) → line_start text o ≡ s → o ≤ line_end text o → character_start text o ≡ o → (position_of text o).character ≡ sum (take (o - s) (map units_of (drop s text)))
  column s o from ahead start =
      let at : min o (line_end text o) ≡ o = omega (arith, ahead) in
      ap (λ k. units (slice_range text (line_start text o) (character_start text k))) at
      ∙ ap (λ k. units (slice_range text (line_start text o) k)) start
      ∙ ap (λ k. units (slice_range text k o)) from
      ∙ ap sum (sym (take-map units_of (o - s) (drop s text)))

  -- the units from a line's start grow over each character's first byte
  grows : (s o x : ℕ) → s ≤ o → o < x → x ≤ length text → is_continuation (get_or text o 0) ≡ false → sum (take (o - s) (map units_of (drop s text))) < sum (take (x - s) (map units_of (drop s text)))
  grows s o x low less within start =
      let inside : o - s < length (drop s text) = omega (arith, low, less, within, length-drop s text) in
      let unit : get_or (map units_of (drop s text)) (o - s) 0 ≡ units_of (get_or text o 0) =
      get_or-map units_of (drop s text) (o - s) 0 0 inside ∙ ap units_of (get_or-drop s text (o - s) 0 ∙ ap (λ k. get_or text k 0) (let e : s + (o - s) ≡ o = omega (arith, low) in e)) in
      omega (arith, unit, some_unit (get_or text o 0) start, sum_take (map units_of (drop s text)) (o - s) (omega (arith, inside, length-map (drop s text) units_of)), sum_take_le (map units_of (drop s text)) (o - s + 1) (x - s) (omega (arith, low, less)))

  module _ (o : ℕ) (within : o ≤ length text) (start : is_continuation (get_or text o 0) ≡ false) (ahead : o ≤ line_end text o) where
    before_itself : IsBefore text (position_of text o) o
    before_itself = record { within = within; start = starts_character text o start; ahead = ahead; line = refl; column = omega arith }

    -- no later offset is before its own position
    not_after : (x : ℕ) → IsBefore text (position_of text o) x → x ≤ o
    not_after x b = elim (cases_order x o) [
      | inl same ↦ omega (arith, same)
      | inr q ↦ elim q [
        | inl less ↦ omega (arith, less)
        | inr more ↦
            let from : line_start text x ≡ line_start text o = one_start x o b.within within b.line in
            let here = column (line_start text o) o refl ahead (starts_character text o start) in
            let there = column (line_start text o) x from b.ahead b.start in
            absurd (beyond _ _ (rw (here, there) (grows (line_start text o) o x (start_below text o) more b.within start)) b.column)
      ]
    ]

    pub comes_back : (answer : Option ℕ) → IsOffset text (position_of text o) answer → answer ≡ Some o
    comes_back answer h = one text (position_of text o) answer (Some o) h (before_itself, not_after)
