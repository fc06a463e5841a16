use Rattle.std.proofs.Common.{◌≡◌, ◌-◌, ◌==◌, [], cond, min, length, get_or, sym, ◌∙◌, ap, subst, arith}
use Rattle.pq_lex.specs.aux.Kept.{IsCounted, IsRising, mark_at, numbers_of, units_at}
use Rattle.pq_lex.specs.aux.LineMarks.{IsByte, byte_of}
use Rattle.pq_lex.proofs.Answering.{line_fields}
use Rattle.pq_lex.proofs.Marked.{absent, found_at, rising}
use Rattle.pq_lex.proofs.Offsets.{byte_wide}
use Rattle.pq_lex.proofs.lines.Marks.byte.Goals as goal

pub wide_of-requires : goal.wide_of-requires
wide_of-requires c = subst (λ ws. IsRising (numbers_of ws)) (sym c.deref.ensures.value) (rising 0 (length c.args.self.now.starts) c.args.self.now.wide.items c.requires.indexed.marked.wide)

pub byte_at-requires : goal.byte_at-requires
byte_at-requires c =
    let f = found_at c.args.self.now c.requires.indexed.marked c.args.number c.deref.result.now c.deref.ensures.value c.in-Some.k c.in-Some.ensures c.index-line.result.now c.index-line.ensures in
    subst (λ u. IsCounted u c.deref-in-Some-2.result.now) (sym c.deref-in-Some.ensures.value) (subst (IsCounted c.index-line.result.now.units.items) (sym c.deref-in-Some-2.ensures.value) f.counted)

pub overflow_sub-at : goal.overflow_sub-at
overflow_sub-at c = omega (arith, c.at.ensures, c.at-in-None.ensures, (line_fields c.args.self.now c.requires.indexed c.args.number c.requires.within).ordered)

pub returns-in-Some : goal.returns-in-Some
returns-in-Some c =
    let f = found_at c.args.self.now c.requires.indexed.marked c.args.number c.deref.result.now c.deref.ensures.value c.in-Some.k c.in-Some.ensures c.index-line.result.now c.index-line.ensures in
    sym (byte_wide c.index-line.result.now.units.items (mark_at c.args.self.now c.args.number) c.args.column c.byte_at.result f.units f.some (subst (λ u. IsByte u c.args.column c.byte_at.result) c.deref-in-Some.ensures.value c.byte_at.ensures))

pub returns-in-None : goal.returns-in-None
returns-in-None c =
    let none : units_at c.args.number c.args.self.now.wide.items ≡ [] = subst (λ ws. units_at c.args.number ws ≡ []) c.deref.ensures.value (absent c.args.number c.deref.result.now c.in-None.ensures) in
    c.min.ensures
    ∙ ap (λ x. min c.args.column (x - c.at-in-None.result)) c.at.ensures
    ∙ ap (λ y. min c.args.column (get_or c.args.self.now.ends c.args.number 0 - y)) c.at-in-None.ensures
    ∙ ap (λ u. cond (length u == 0) (min c.args.column (get_or c.args.self.now.ends c.args.number 0 - get_or c.args.self.now.starts c.args.number 0)) (byte_of u c.args.column)) (sym none)
