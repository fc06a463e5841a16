-- What is known of a line of an index.
use Rattle.std.proofs.Common.{◌≡◌, inl, inr, ℕ, ◌-◌, ◌<◌, ◌≤◌, ◌==◌, false, cond, length, min, ap, arith}
use Rattle.pq_lex.specs.declared.lines.Marks.{Marks}
use Rattle.pq_lex.specs.aux.Kept.{IsIndexed, marks_of, mark_at}
use Rattle.pq_lex.specs.aux.LineMarks.{LineMark, byte_of, byte_in}
use Rattle.std.proofs.lemmas.Bool.Decides.{nat_tests}
use Rattle.pq_lex.proofs.LineFacts.{bool_cases}
use Rattle.pq_lex.proofs.Indexed.{Fields, fields}
use Rattle.pq_lex.proofs.Marked.{marks_length, mark_is}
use Rattle.pq_lex.proofs.Offsets.{byte_is}

pub line_fields : (m : Marks) (i : IsIndexed m) (k : ℕ) → k < length m.starts → Fields (marks_of m) i.text i.is (mark_at m k)
line_fields m i k h = fields (marks_of m) i.text i.is k (mark_at m k) (omega (arith, h, marks_length m i.marked)) (mark_is m i.marked k h)

-- a byte of a line is in the text
pub byte_within : (m : LineMark) (column : ℕ) → (0 < length m.units → length m.units ≡ m.end - m.start) → byte_in m column ≤ m.end - m.start
byte_within m column full = elim (bool_cases (length m.units == 0)) [
  | inl none ↦ omega (arith, ap (λ b. cond b (min column (m.end - m.start)) (byte_of m.units column)) none)
  | inr some ↦
      let b = (byte_is m.units column).within in
      let more : 0 < length m.units = not_zero (length m.units) some in
      omega (arith, b, full more, ap (λ b. cond b (min column (m.end - m.start)) (byte_of m.units column)) some)
]
  where
    not_zero : (n : ℕ) → (n == 0) ≡ false → 0 < n
    not_zero n h = grind (arith, nat_tests)
