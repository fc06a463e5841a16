use Rattle.std.proofs.Common.{◌≡◌}
use Rattle.pq_syntax.specs.Loose.{is_first_on_line}
use Rattle.pq_syntax.proofs.loose.marks.is_first_on_line.Given as goal

abbrev pub invariant-blanks : goal.invariant-blanks
invariant-blanks l = is_first_on_line l.text l.at ≡ is_first_on_line l.text l.offset

abbrev pub decreases-blanks : goal.decreases-blanks
decreases-blanks l = l.at
