-- Auxiliary: what an index of lines keeps of a text (used by proofs, invariants and equality), and
-- what it answers by these lines alone (used by contracts). The laws `positions_of_lines` and
-- `offsets_of_lines` and the contracts of `position` and `offset` tie both to the meaning:
-- `position_of` and `IsOffset` of `Lines`.
use Rattle.std.specs.Prelude.{◌≡◌, ℕ, zero, suc, ◌+◌, ◌-◌, ◌<◌, ◌≤◌, ◌==◌, Bool, true, ◌&&◌, cond, List, [], ◌∷◌, ◌++◌, length, map, min, sum, slice_index, slice_range, take, nat_lt, Option, Some, None}
use Rattle.std.specs.List.{list_all}
use Rattle.std.specs.Ordering.{eq_of_both, on}
use Rattle.std.specs.Cmp.{IsEquivalence, and_equiv, nat_eq_equiv, on_equiv}
use Rattle.std.specs.Cmp.Lexicographic.{lists_equiv, nat_list_eq_equiv, pointwise}
use Rattle.pq_lex.specs.declared.position.Position.{Position}
use Rattle.pq_lex.specs.Lines.{starts_line, end_of_line, units_of}

-- A `LineMark` is a line: its start, its end before the terminator, and the units of its bytes, or
-- [] if all are ASCII.
pub record LineMark : Type 0 where
  pub start : ℕ
  pub end : ℕ
  pub units : List ℕ

-- `is_ascii line` is whether each byte of `line` is ASCII.
abbrev pub is_ascii : List ℕ → Bool
is_ascii line = list_all (λ b. nat_lt b 0x80) line

-- `units_kept line` is what an index keeps of the bytes `line`: their units, or [] if all are
-- ASCII.
abbrev pub units_kept : List ℕ → List ℕ
units_kept line = cond (is_ascii line) [] (map units_of line)

-- `mark text start` is the line of `text` that starts at offset `start`.
abbrev pub mark : List ℕ → ℕ → LineMark
mark text start = record { start = start; end = end_of_line text start; units = units_kept (slice_range text start (end_of_line text start)) }

-- `starts_to text offset` is the offsets at which lines start, up to `offset`.
unfoldable pub starts_to : List ℕ → ℕ → List ℕ
starts_to text zero = 0 ∷ []
starts_to text (suc i) = cond (starts_line text (suc i)) (starts_to text i ++ suc i ∷ []) (starts_to text i)

-- `lines_of text` is the lines of `text`.
abbrev pub lines_of : List ℕ → List LineMark
lines_of text = map (mark text) (starts_to text (length text))

-- `same_mark a b` is whether the lines `a` and `b` are the same.
abbrev pub same_mark : LineMark → LineMark → Bool
same_mark = eq_of_both (on (λ m. m.start) ◌==◌) (eq_of_both (on (λ m. m.end) ◌==◌) (on (λ m. m.units) (pointwise ◌==◌)))

-- `same_lines a b` is whether the lists of lines `a` and `b` are the same.
abbrev pub same_lines : List LineMark → List LineMark → Bool
same_lines = pointwise same_mark

-- `same_lines` is an equivalence: the law of `PartialEq` for an index.
pub same_lines_equiv : IsEquivalence same_lines
same_lines_equiv = lists_equiv (and_equiv (on_equiv (λ m. m.start) nat_eq_equiv) (and_equiv (on_equiv (λ m. m.end) nat_eq_equiv) (on_equiv (λ m. m.units) nat_list_eq_equiv)))

-- `lead_index units at` is the index of the first byte of the character of the byte `at`, in a line
-- with these `units`.
unfoldable pub lead_index : List ℕ → ℕ → ℕ
lead_index units zero = 0
lead_index units (suc i) = cond (nat_lt (suc i) (length units) && slice_index units (suc i) == 0) (lead_index units i) (suc i)

-- `column_of units at` is the column of the byte `at`: the units of the characters before its own.
abbrev pub column_of : List ℕ → ℕ → ℕ
column_of units at = sum (take (lead_index units at) units)

-- `kept_column units at` is the column of the byte `at` of a line of which an index keeps `units`.
abbrev pub kept_column : List ℕ → ℕ → ℕ
kept_column units at = cond (length units == 0) at (column_of units at)

-- `IsByte units column at` is: `at` is the last byte at or before `column` that starts a character,
-- or the line's end.
pub record IsByte (units : List ℕ) (column at : ℕ) : Type 0 where
  pub within : at ≤ length units
  pub start : at < length units → slice_index units at ≡ 0 → ⊥
  pub fits : sum (take at units) ≤ column
  pub most : (q : ℕ) → at < q → q ≤ length units → column < sum (take q units)

-- `column_in m offset` is the column of `offset` in the line `m`. An offset after the line's end
-- counts as that end.
abbrev pub column_in : LineMark → ℕ → ℕ
column_in m offset = kept_column m.units (min offset m.end - m.start)

-- `is_before ms offset` is whether `offset` is before the first of the lines `ms`, or `ms` is empty.
abbrev pub is_before : List LineMark → ℕ → Bool
is_before [] offset = true
is_before (m ∷ ms) offset = nat_lt offset m.start

-- `place_from n ms offset` is the position of `offset` in the lines `ms`, the first of which has
-- the number `n`. The line of `offset` is the first whose next line starts after `offset`, or the
-- last.
unfoldable pub place_from : ℕ → List LineMark → ℕ → Position
place_from n [] offset = record { line = n; character = 0 }
place_from n (m ∷ ms) offset = cond (is_before ms offset) (record { line = n; character = column_in m offset }) (place_from (suc n) ms offset)

-- `place_in ms offset` is the position of `offset` in the text with the lines `ms`.
abbrev pub place_in : List LineMark → ℕ → Position
place_in ms offset = place_from 0 ms offset

-- `byte_of units column` is, in a line with these `units`, the last byte at or before `column` that
-- starts a character, or the line's end.
unfoldable pub byte_of : List ℕ → ℕ → ℕ
byte_of [] column = 0
byte_of (u ∷ us) column = cond (nat_lt column u) 0 (suc (byte_of us (column - u)))

-- `byte_in m column` is that byte of the line `m`. In a line of ASCII each byte is one unit.
abbrev pub byte_in : LineMark → ℕ → ℕ
byte_in m column = cond (length m.units == 0) (min column (m.end - m.start)) (byte_of m.units column)

-- `offset_from ms n column` is the offset of `column` in the line number `n` of `ms`, or `None` if
-- `ms` has no such line.
unfoldable pub offset_from : List LineMark → ℕ → ℕ → Option ℕ
offset_from [] n column = None
offset_from (m ∷ ms) zero column = Some (m.start + byte_in m column)
offset_from (m ∷ ms) (suc n) column = offset_from ms n column

-- `offset_in ms p` is the largest offset at or before the position `p` in the text with the lines
-- `ms`, or `None` if the text has no such line.
abbrev pub offset_in : List LineMark → Position → Option ℕ
offset_in ms p = offset_from ms p.line p.character
