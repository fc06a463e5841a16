-- The position of an offset, by the lines that an index keeps.
use Rattle.std.proofs.Common.{◌≡◌, ℕ, zero, suc, ◌+◌, ◌<◌, ◌≤◌, false, List, [], ◌∷◌, length, map, get_or, nat_lt, sym, ◌∙◌, ap, subst, arith, add-one}
use Rattle.std.proofs.lemmas.List.{get_or-map, length-map}
use Rattle.std.proofs.lemmas.Bool.{lt-ltb}
use Rattle.std.proofs.lemmas.Bool.Decides.{nat_tests}
use Rattle.pq_lex.specs.declared.lines.Marks.{Marks}
use Rattle.pq_lex.specs.declared.position.Position.{Position}
use Rattle.pq_lex.specs.aux.Kept.{IsMarked, marks_of, mark_at}
use Rattle.pq_lex.specs.Lines.{line_number, line_start, position_of}
use Rattle.pq_lex.specs.aux.LineMarks.{LineMark, starts_to, mark, lines_of, column_in, place_from, place_in}
use Rattle.pq_lex.proofs.Positions.{at_line, line_facts, starts_before, starts_after, start_below}
use Rattle.pq_lex.proofs.Indexed.{mark_start, starts_are, column_at}
use Rattle.pq_lex.proofs.Marked.{marks_length, marks_start, mark_is}

abbrev pub place : ℕ → ℕ → Position
place line character = record { line = line; character = character }

abbrev start_at : List LineMark → ℕ → ℕ
start_at ms i = get_or (map (λ m. m.start) ms) i 0

not_less : (a b : ℕ) → b ≤ a → nat_lt a b ≡ false
not_less a b h = grind (arith, nat_tests)

-- the place is in the line that starts at the offset or before it, as all lines before it do, and
-- the next does not
found_from : (ms : List LineMark) (n k offset : ℕ) (m : LineMark) → k < length ms → m ≡ get_or ms k m → ((i : ℕ) → i ≤ k → start_at ms i ≤ offset) → (suc k < length ms → offset < start_at ms (suc k)) → place_from n ms offset ≡ place (n + k) (column_in m offset)
unfolding place_from
found_from [] n k offset m h e before last = absurd (omega (arith, h))
found_from (x ∷ []) n zero offset m h e before last = ap (λ j. place j (column_in x offset)) (let z : n ≡ n + 0 = omega arith in z) ∙ ap (λ y. place (n + 0) (column_in y offset)) (sym e)
found_from (x ∷ []) n (suc k) offset m h e before last = absurd (omega (arith, h))
found_from (x ∷ y ∷ ms) n zero offset m h e before last =
    let less : offset < y.start = last (omega arith) in
    rw (lt-ltb offset y.start less) (ap (λ j. place j (column_in x offset)) (let z : n ≡ n + 0 = omega arith in z) ∙ ap (λ y. place (n + 0) (column_in y offset)) (sym e))
found_from (x ∷ y ∷ ms) n (suc k) offset m h e before last =
    let low : y.start ≤ offset = before 1 (omega arith) in
    rw (not_less offset y.start low) (
    found_from (y ∷ ms) (suc n) k offset m (omega (arith, h)) e (λ i le. before (suc i) (omega (arith, le))) (λ q. last (omega (arith, q)))
    ∙ ap (λ j. place j (column_in m offset)) (let z : suc n + k ≡ n + suc k = omega arith in z)
    )

found : (ms : List LineMark) (k offset : ℕ) (m : LineMark) → k < length ms → m ≡ get_or ms k m → ((i : ℕ) → i ≤ k → start_at ms i ≤ offset) → (k + 1 < length ms → offset < start_at ms (k + 1)) → place_in ms offset ≡ place k (column_in m offset)
found ms k offset m h e before last =
    found_from ms 0 k offset m h e before (λ q. subst (λ j. offset < start_at ms j) (add-one k) (last (omega (arith, q))))
    ∙ ap (λ j. place j (column_in m offset)) (let z : 0 + k ≡ k = omega arith in z)

-- the lines before a line start before it
in_order : (text : List ℕ) (k i : ℕ) → k < length (starts_to text (length text)) → i ≤ k → get_or (starts_to text (length text)) i 0 ≤ get_or (starts_to text (length text)) k 0
in_order text k i h le =
    let f = line_facts text (length text) k h in
    starts_before text (get_or (starts_to text (length text)) k 0) (length text) i f.2 (omega (arith, le, f.1))

-- the answer of an index
pub place_is : (m : Marks) (text : List ℕ) → IsMarked m → marks_of m ≡ lines_of text → (k : ℕ) → k < length m.starts → (o : ℕ) → get_or m.starts k 0 ≤ o → (k + 1 < length m.starts → o < get_or m.starts (k + 1) 0) → place k (column_in (mark_at m k) o) ≡ place_in (marks_of m) o
place_is m text marked are k h o low last =
    let starts : map (λ x. x.start) (marks_of m) ≡ m.starts = marks_start m marked in
    let count = marks_length m marked in
    let same : m.starts ≡ starts_to text (length text) = sym starts ∙ starts_are (marks_of m) text are in
    let before : (i : ℕ) → i ≤ k → get_or m.starts i 0 ≤ o = λ i le.
    let b = in_order text k i (omega (arith, h, ap length same)) le in
    let c : get_or m.starts i 0 ≤ get_or m.starts k 0 = subst (λ xs. get_or xs i 0 ≤ get_or xs k 0) (sym same) b in
    omega (arith, c, low) in
    sym (found (marks_of m) k o (mark_at m k) (omega (arith, h, count)) (mark_is m marked k h)
    (λ i le. subst (λ xs. get_or xs i 0 ≤ o) (sym starts) (before i le))
    (λ q. subst (λ xs. o < get_or xs (k + 1) 0) (sym starts) (last (omega (arith, q, count)))))

-- the position of an offset of a text
pub places : (text : List ℕ) (offset : ℕ) → offset ≤ length text → place_in (lines_of text) offset ≡ position_of text offset
places text o le =
    let k : ℕ = line_number text o in
    let a = at_line text o (length text) le in
    let low = start_below text o in
    let starts = mark_start text (starts_to text (length text)) in
    let count = length-map (starts_to text (length text)) (mark text) in
    let s : ℕ = line_start text o in
    let here : mark text s ≡ get_or (lines_of text) k (mark text s) = ap (mark text) (sym a.1) ∙ sym (get_or-map (mark text) (starts_to text (length text)) k 0 (mark text s) a.0) in
    found (lines_of text) k o (mark text s) (omega (arith, a.0, count)) here
    (λ i below. subst (λ xs. get_or xs i 0 ≤ o) (sym starts) (starts_before text o (length text) i le below))
    (λ q. subst (λ xs. o < get_or xs (k + 1) 0) (sym starts) (starts_after text o (length text) le (omega (arith, q, count))))
    ∙ ap (place k) (column_at text s (omega (arith, low, le)) o low)
