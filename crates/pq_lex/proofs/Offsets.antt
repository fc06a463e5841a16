-- The offset of a position, by the lines that an index keeps.
use Rattle.std.proofs.Common.{◌≡◌, inl, inr, ℕ, zero, suc, ◌+◌, ◌-◌, ◌<◌, ◌≤◌, ◌==◌, true, false, cond, List, [], ◌∷◌, length, map, min, sum, take, get_or, slice_range, nat_lt, Some, None, refl, sym, ◌∙◌, ap, subst, arith}
use Rattle.std.proofs.lemmas.List.{get_or-map, length-map}
use Rattle.std.proofs.lemmas.List.Sums.{sum_by-cons}
use Rattle.std.proofs.lemmas.Bool.{cases_order, lt-ltb}
use Rattle.std.proofs.lemmas.Bool.Decides.{nat_tests}
use Rattle.pq_lex.specs.declared.lines.Marks.{Marks}
use Rattle.pq_lex.specs.declared.position.Position.{Position}
use Rattle.pq_lex.specs.aux.Kept.{IsMarked, marks_of, mark_at}
use Rattle.pq_lex.specs.Lines.{end_of_line, units_of, IsOffset}
use Rattle.pq_lex.specs.aux.LineMarks.{LineMark, is_ascii, units_kept, starts_to, mark, lines_of, IsByte, byte_of, byte_in, offset_from, offset_in}
use Rattle.pq_lex.proofs.LineFacts.{bool_cases, end_within}
use Rattle.pq_lex.proofs.Positions.{at_line, line_facts}
use Rattle.pq_lex.proofs.Columns.{end_starts, line_length, ascii_byte, nonempty_row}
use Rattle.pq_lex.proofs.Indexed.{offset_is}
use Rattle.pq_lex.proofs.Marked.{marks_length, mark_is}

pub not_less : (a b : ℕ) → b ≤ a → nat_lt a b ≡ false
not_less a b h = grind (arith, nat_tests)

less_of : (a b : ℕ) → nat_lt a b ≡ true → a < b
less_of a b h = grind (arith, nat_tests)

not_of : (a b : ℕ) → nat_lt a b ≡ false → b ≤ a
not_of a b h = grind (arith, nat_tests)

sum_cons : (u : ℕ) (us : List ℕ) (q : ℕ) → sum (take (suc q) (u ∷ us)) ≡ u + sum (take q us)
sum_cons u us q = sum_by-cons (λ y. y) u (take q us)

-- the byte at a column is `byte_of`
pub byte_unique : (units : List ℕ) (column a : ℕ) → IsByte units column a → byte_of units column ≡ a
unfolding byte_of
byte_unique [] column a b = omega (arith, b.within)
byte_unique (u ∷ us) column zero b =
    let m = b.most 1 (omega arith) (omega arith) in
    rw (lt-ltb column u (omega (arith, m, sum_cons u us 0))) refl
byte_unique (u ∷ us) column (suc a) b =
    let f = b.fits in
    let low : u ≤ column = omega (arith, f, sum_cons u us a) in
    let rest : IsByte us (column - u) a = record {
      within = let w = b.within in omega (arith, w);
      start = λ less z. b.start (omega (arith, less)) z;
      fits = omega (arith, f, sum_cons u us a);
      most = λ q more within. let m = b.most (suc q) (omega (arith, more)) (omega (arith, within)) in omega (arith, m, low, sum_cons u us q);
    } in
    rw (not_less column u low) (ap suc (byte_unique us (column - u) a rest))

here : (u : ℕ) (us : List ℕ) (column : ℕ) → column < u → IsByte (u ∷ us) column 0
here u us column h = record {
  within = omega arith;
  start = λ less z. omega (arith, h, z);
  fits = omega arith;
  most = most;
}
  where
    most : (q : ℕ) → 0 < q → q ≤ length (u ∷ us) → column < sum (take q (u ∷ us))
    most zero more within = absurd (omega (arith, more))
    most (suc q) more within = omega (arith, h, sum_cons u us q)

later : (u : ℕ) (us : List ℕ) (column a : ℕ) → u ≤ column → IsByte us (column - u) a → IsByte (u ∷ us) column (suc a)
later u us column a h b = record {
  within = let w = b.within in omega (arith, w);
  start = λ less z. b.start (omega (arith, less)) z;
  fits = let f = b.fits in omega (arith, f, h, sum_cons u us a);
  most = most;
}
  where
    most : (q : ℕ) → suc a < q → q ≤ length (u ∷ us) → column < sum (take q (u ∷ us))
    most zero more within = absurd (omega (arith, more))
    most (suc q) more within = let m = b.most q (omega (arith, more)) (omega (arith, within)) in omega (arith, m, h, sum_cons u us q)

-- `byte_of` is the byte at a column
pub byte_is : (units : List ℕ) (column : ℕ) → IsByte units column (byte_of units column)
unfolding byte_of
byte_is [] column = record {
  within = omega arith;
  start = λ less _. omega (arith, less);
  fits = omega arith;
  most = λ q more within. absurd (omega (arith, more, within));
}
byte_is (u ∷ us) column = elim (bool_cases (nat_lt column u)) [
  | inl less ↦ rw less (here u us column (less_of column u less))
  | inr more ↦ rw more (later u us column (byte_of us (column - u)) (not_of column u more) (byte_is us (column - u)))
]

-- the line with a number
pub offset_found : (ms : List LineMark) (k column : ℕ) (m : LineMark) → k < length ms → m ≡ get_or ms k m → offset_from ms k column ≡ Some (m.start + byte_in m column)
unfolding offset_from
offset_found [] k column m h e = absurd (omega (arith, h))
offset_found (x ∷ ms) zero column m h e = ap (λ y. Some (y.start + byte_in y column)) (sym e)
offset_found (x ∷ ms) (suc k) column m h e = offset_found ms k column m (omega (arith, h)) e

pub offset_none : (ms : List LineMark) (k column : ℕ) → length ms ≤ k → offset_from ms k column ≡ None
unfolding offset_from
offset_none [] k column h = refl
offset_none (x ∷ ms) zero column h = absurd (omega (arith, h))
offset_none (x ∷ ms) (suc k) column h = offset_none ms k column (omega (arith, h))

-- the byte at a column of a line, by what an index keeps of it
kept_byte : (xs : List ℕ) (column : ℕ) → IsByte (map units_of xs) column (cond (length (units_kept xs) == 0) (min column (length xs)) (byte_of (units_kept xs) column))
kept_byte xs column = elim (bool_cases (is_ascii xs)) [
  | inl plain ↦ rw plain (ascii_byte xs column plain)
  | inr wide ↦ rw (wide, nonempty_row xs wide) (byte_is (map units_of xs) column)
]

-- the offset of a position of a text
pub offsets : (text : List ℕ) (p : Position) → IsOffset text p (offset_in (lines_of text) p)
offsets text p = elim (cases_order p.line (length (starts_to text (length text)))) [
  | inl same ↦ none (omega (arith, same))
  | inr o ↦ elim o [
    | inl less ↦ some less
    | inr more ↦ none (omega (arith, more))
  ]
]
  where
    none : length (starts_to text (length text)) ≤ p.line → IsOffset text p (offset_in (lines_of text) p)
    none past = subst (IsOffset text p) (sym (offset_none (lines_of text) p.line p.character (omega (arith, past, length-map (starts_to text (length text)) (mark text))))) (λ o le e. let a = at_line text o (length text) le in omega (arith, a.0, e, past))

    some : p.line < length (starts_to text (length text)) → IsOffset text p (offset_in (lines_of text) p)
    some h =
        let s : ℕ = get_or (starts_to text (length text)) p.line 0 in
        let f = line_facts text (length text) p.line h in
        let at : mark text s ≡ get_or (lines_of text) p.line (mark text s) = sym (get_or-map (mark text) (starts_to text (length text)) p.line 0 (mark text s) h) in
        let is = offset_found (lines_of text) p.line p.character (mark text s) (omega (arith, h, length-map (starts_to text (length text)) (mark text))) at in
        let row : List ℕ = slice_range text s (end_of_line text s) in
        let len : length (slice_range text s (end_of_line text s)) ≡ end_of_line text s - s = line_length text s (end_of_line text s) (omega arith) (end_within text s f.2) (end_starts text s f.2) in
        let byte : IsByte (map units_of row) p.character (byte_in (mark text s) p.character) = subst (λ n. IsByte (map units_of row) p.character (cond (length (units_kept row) == 0) (min p.character n) (byte_of (units_kept row) p.character))) len (kept_byte row p.character) in
        subst (IsOffset text p) (sym is) (offset_is text s f.2 f.0 p (byte_in (mark text s) p.character) f.1 byte)

-- the answer of an index
pub byte_wide : (units : List ℕ) (m : LineMark) (column at : ℕ) → m.units ≡ units → 0 < length units → IsByte units column at → byte_in m column ≡ at
byte_wide units m column at e some byte =
    ap (λ u. cond (length u == 0) (min column (m.end - m.start)) (byte_of u column)) e
    ∙ rw (is_some (length units) some) (byte_unique units column at byte)
  where
    is_some : (n : ℕ) → 0 < n → (n == 0) ≡ false
    is_some n h = grind (arith, nat_tests)

pub line_offset : (m : Marks) → IsMarked m → (k : ℕ) → k < length m.starts → (column : ℕ) → Some (get_or m.starts k 0 + byte_in (mark_at m k) column) ≡ offset_from (marks_of m) k column
line_offset m marked k h column = sym (offset_found (marks_of m) k column (mark_at m k) (omega (arith, h, marks_length m marked)) (mark_is m marked k h))

pub line_none : (m : Marks) → IsMarked m → (k column : ℕ) → length m.starts ≤ k → None ≡ offset_from (marks_of m) k column
line_none m marked k column h = sym (offset_none (marks_of m) k column (omega (arith, h, marks_length m marked)))
