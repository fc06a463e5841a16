use Rattle.std.proofs.Common.{◌≡◌, ◌≤◌, [], ◌∷◌, ◌++◌, map, length}
use Rattle.pq_lex.specs.aux.Kept.{IsMarked, marks_of}
use Rattle.pq_lex.specs.aux.LineMarks.{mark, starts_to}
use Rattle.pq_lex.proofs.Breaks.{Left}
use Rattle.pq_lex.proofs.lines.LineIndex.new.Given as goal

abbrev pub invariant-lines : goal.invariant-lines
invariant-lines l = record {
  within : l.start ≤ length l.text;
  made : marks_of l.marks ++ mark l.text l.start ∷ [] ≡ map (mark l.text) (starts_to l.text l.start);
  marked : IsMarked l.marks;
  left : Left l.text l.start l.ends;
}

abbrev pub decreases-lines : goal.decreases-lines
decreases-lines l = length l.ends
