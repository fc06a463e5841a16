use Rattle.std.proofs.Common.{◌+◌, Some, get_or, sym, ◌∙◌, ap, subst, arith}
use Rattle.pq_lex.specs.Lines.{IsOffset}
use Rattle.pq_lex.specs.aux.Kept.{mark_at}
use Rattle.pq_lex.specs.aux.LineMarks.{offset_in}
use Rattle.pq_lex.proofs.Answering.{line_fields, byte_within}
use Rattle.pq_lex.proofs.Offsets.{line_none, line_offset, offsets}
use Rattle.pq_lex.proofs.lines.LineIndex.offset.Goals as goal

pub returns-then-position-len-clause-exact : goal.returns-then-position-len-clause-exact
returns-then-position-len-clause-exact c =
    line_none c.self.inside.marks c.self.invariant.marked c.args.position.line c.args.position.character (omega (arith, c.len.ensures, c.if-position-len.true))
    ∙ ap (λ ms. offset_in ms c.args.position) c.self.view_is

pub returns-then-position-len-clause-of_text : goal.returns-then-position-len-clause-of_text
returns-then-position-len-clause-of_text c text e = subst (IsOffset text c.args.position) (sym (returns-then-position-len-clause-exact c ∙ ap (λ ms. offset_in ms c.args.position) e)) (offsets text c.args.position)

pub overflow_add-result : goal.overflow_add-result
overflow_add-result c =
    let f = line_fields c.self.inside.marks c.self.invariant c.args.position.line (omega (arith, c.len.ensures, c.if-position-len.false)) in
    let b = byte_within (mark_at c.self.inside.marks c.args.position.line) c.args.position.character f.full in
    omega (arith, c.at-start.ensures, c.byte.ensures, f.ordered, f.inside, b, c.self.invariant.small)

pub returns-clause-exact : goal.returns-clause-exact
returns-clause-exact c =
    ap (λ x. Some (x + c.byte.result)) c.at-start.ensures
    ∙ ap (λ y. Some (get_or c.self.inside.marks.starts c.args.position.line 0 + y)) c.byte.ensures
    ∙ line_offset c.self.inside.marks c.self.invariant.marked c.args.position.line (omega (arith, c.len.ensures, c.if-position-len.false)) c.args.position.character
    ∙ ap (λ ms. offset_in ms c.args.position) c.self.view_is

pub returns-clause-of_text : goal.returns-clause-of_text
returns-clause-of_text c text e = subst (IsOffset text c.args.position) (sym (returns-clause-exact c ∙ ap (λ ms. offset_in ms c.args.position) e)) (offsets text c.args.position)
