-- Equality of the lines that indexes keep.
use Rattle.std.proofs.Common.{◌≡◌, ◌==◌, ◌&&◌, Bool, List, map, sym, ◌∙◌, ap}
use Rattle.std.proofs.lemmas.Bool.Decides.{same_from_decides}
use Rattle.std.specs.Bool.{Decides}
use Rattle.std.specs.Cmp.{unsigned_Decides, first_so, second_so}
use Rattle.std.specs.Cmp.Lexicographic.{pointwise, pointwise_decides}
use Rattle.std.specs.Cmp.Derive.{both_true}
use Rattle.std.specs.Cmp.Derive.Mapped.{pointwise-map}
use Rattle.pq_lex.specs.declared.lines.Marks.{Marks}
use Rattle.pq_lex.specs.aux.Kept.{IsMarked, marks_of}
use Rattle.pq_lex.specs.aux.LineMarks.{LineMark, same_mark, same_lines}
use Rattle.pq_lex.proofs.Marked.{wide_mark, same_marks, same_starts, same_ends, same_wides}

one_mark : (a b : LineMark) → Decides (same_mark a b) (a ≡ b)
one_mark a b = (
  λ h.
      let start : a.start ≡ b.start = (unsigned_Decides a.start b.start).0 (first_so _ _ h) in
      let tail = second_so _ _ h in
      let end : a.end ≡ b.end = (unsigned_Decides a.end b.end).0 (first_so _ _ tail) in
      let units : a.units ≡ b.units = (pointwise_decides unsigned_Decides a.units b.units).0 (second_so _ _ tail) in
      λ i. record { start = start i; end = end i; units = units i },
  λ e. both_true ((unsigned_Decides a.start b.start).1 (ap (λ m. m.start) e))
      (both_true ((unsigned_Decides a.end b.end).1 (ap (λ m. m.end) e)) ((pointwise_decides unsigned_Decides a.units b.units).1 (ap (λ m. m.units) e))),
)

-- the test of two lists of marks tells whether they are the same
pub same_lines_decides : (a b : List LineMark) → Decides (same_lines a b) (a ≡ b)
same_lines_decides = pointwise_decides one_mark

-- indexes compare as their lines
pub kept_as_lines : (a b : Marks) → IsMarked a → IsMarked b → (pointwise ◌==◌ a.starts b.starts && (pointwise ◌==◌ a.ends b.ends && pointwise (λ x y. same_mark (wide_mark x) (wide_mark y)) a.wide.items b.wide.items)) ≡ same_lines (marks_of a) (marks_of b)
kept_as_lines a b am bm =
    let wide : Bool = pointwise (λ x y. same_mark (wide_mark x) (wide_mark y)) a.wide.items b.wide.items in
    let as_marks : same_lines (map wide_mark a.wide.items) (map wide_mark b.wide.items) ≡ pointwise (λ x y. same_mark (wide_mark x) (wide_mark y)) a.wide.items b.wide.items = pointwise-map wide_mark same_mark a.wide.items b.wide.items in
    same_from_decides _ (same_lines (marks_of a) (marks_of b)) (
      (λ h.
          let tail = second_so _ _ h in
          same_marks a b ((pointwise_decides unsigned_Decides a.starts b.starts).0 (first_so _ _ h)) ((pointwise_decides unsigned_Decides a.ends b.ends).0 (first_so _ _ tail))
          ((same_lines_decides (map wide_mark a.wide.items) (map wide_mark b.wide.items)).0 (as_marks ∙ second_so _ _ tail))),
      (λ e. both_true ((pointwise_decides unsigned_Decides a.starts b.starts).1 (same_starts a b am bm e))
          (both_true ((pointwise_decides unsigned_Decides a.ends b.ends).1 (same_ends a b am bm e))
          (sym as_marks ∙ (same_lines_decides (map wide_mark a.wide.items) (map wide_mark b.wide.items)).1 (same_wides a b am bm e)))),
    ) (same_lines_decides (marks_of a) (marks_of b))
