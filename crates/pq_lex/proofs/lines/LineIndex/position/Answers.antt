use Rattle.std.proofs.Common.{◌≤◌, get_or, ◌∙◌, ap, subst, arith}
use Rattle.pq_lex.specs.aux.LineMarks.{place_in}
use Rattle.pq_lex.specs.aux.Kept.{marks_of}
use Rattle.pq_lex.proofs.Indexed.{some_line, first_start}
use Rattle.pq_lex.proofs.Marked.{marks_length, marks_start}
use Rattle.pq_lex.proofs.Places.{place, place_is, places}
use Rattle.pq_lex.proofs.lines.LineIndex.position.Goals as goal

pub line_of-number-requires-clause-some : goal.line_of-number-requires-clause-some
line_of-number-requires-clause-some c = omega (arith, some_line (marks_of c.self.inside.marks) c.self.invariant.text c.self.invariant.is, marks_length c.self.inside.marks c.self.invariant.marked)

pub line_of-number-requires-clause-first : goal.line_of-number-requires-clause-first
line_of-number-requires-clause-first c =
    subst (λ xs. get_or xs 0 0 ≤ c.args.offset) (marks_start c.self.inside.marks c.self.invariant.marked) (first_start (marks_of c.self.inside.marks) c.self.invariant.text c.self.invariant.is c.args.offset)

pub returns-clause-exact : goal.returns-clause-exact
returns-clause-exact c =
    ap (place c.line_of-number.result) c.column.ensures
    ∙ place_is c.self.inside.marks c.self.invariant.text c.self.invariant.marked c.self.invariant.is c.line_of-number.result c.line_of-number.ensures.within c.args.offset c.line_of-number.ensures.before c.line_of-number.ensures.last
    ∙ ap (λ ms. place_in ms c.args.offset) c.self.view_is

pub returns-clause-of_text : goal.returns-clause-of_text
returns-clause-of_text c text e le = returns-clause-exact c ∙ ap (λ ms. place_in ms c.args.offset) e ∙ places text c.args.offset le
