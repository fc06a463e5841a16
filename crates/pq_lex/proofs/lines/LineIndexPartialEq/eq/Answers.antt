use Rattle.std.proofs.Common.{sym, ◌∙◌}
use Rattle.pq_lex.specs.aux.LineMarks.{same_lines}
use Rattle.pq_lex.proofs.SameLines.{same_lines_decides, kept_as_lines}
use Rattle.pq_lex.proofs.lines.LineIndexPartialEq.eq.Goals as goal

pub returns-clause-is : goal.returns-clause-is
returns-clause-is c = c.eq.ensures ∙ kept_as_lines c.self.inside.marks c.other.inside.marks c.self.invariant.marked c.other.invariant.marked ∙ (λ i. same_lines (c.self.view_is i) (c.other.view_is i))

pub returns-clause-equal_are_same : goal.returns-clause-equal_are_same
returns-clause-equal_are_same c h = (same_lines_decides c.args.self.now c.args.other.now).0 (sym (returns-clause-is c) ∙ h)

pub returns-clause-same_are_equal : goal.returns-clause-same_are_equal
returns-clause-same_are_equal c e = returns-clause-is c ∙ (same_lines_decides c.args.self.now c.args.other.now).1 e
