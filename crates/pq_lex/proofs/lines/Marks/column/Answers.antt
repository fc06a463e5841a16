use Rattle.std.proofs.Common.{◌≡◌, ◌-◌, [], min, sum, length, get_or, sym, ◌∙◌, ap, subst, arith}
use Rattle.pq_lex.specs.aux.Kept.{IsCounted, IsRising, numbers_of, units_at}
use Rattle.pq_lex.specs.aux.LineMarks.{kept_column}
use Rattle.pq_lex.proofs.Answering.{line_fields}
use Rattle.pq_lex.proofs.Marked.{absent, found_at, rising}
use Rattle.pq_lex.proofs.lines.Marks.column.Goals as goal

pub overflow_sub-at : goal.overflow_sub-at
overflow_sub-at c = omega (arith, c.at.ensures, c.at-2.ensures, c.min.ensures, c.requires.after, (line_fields c.args.self.now c.requires.indexed c.args.number c.requires.within).ordered)

pub wide_of-requires : goal.wide_of-requires
wide_of-requires c = subst (λ ws. IsRising (numbers_of ws)) (sym c.deref.ensures.value) (rising 0 (length c.args.self.now.starts) c.args.self.now.wide.items c.requires.indexed.marked.wide)

pub column-requires-clause-within : goal.column-requires-clause-within
column-requires-clause-within c some =
    let f = found_at c.args.self.now c.requires.indexed.marked c.args.number c.deref.result.now c.deref.ensures.value c.in-Some.k c.in-Some.ensures c.index-line.result.now c.index-line.ensures in
    let units = c.deref-in-Some.ensures.value ∙ sym f.units in
    let full = (line_fields c.args.self.now c.requires.indexed c.args.number c.requires.within).full (omega (arith, some, ap length units)) in
    omega (arith, full, ap length units, c.at.ensures, c.at-2.ensures, c.min.ensures)

pub column-requires-clause-counted : goal.column-requires-clause-counted
column-requires-clause-counted c =
    let f = found_at c.args.self.now c.requires.indexed.marked c.args.number c.deref.result.now c.deref.ensures.value c.in-Some.k c.in-Some.ensures c.index-line.result.now c.index-line.ensures in
    subst (λ u. IsCounted u c.deref-in-Some-2.result.now) (sym c.deref-in-Some.ensures.value) (subst (IsCounted c.index-line.result.now.units.items) (sym c.deref-in-Some-2.ensures.value) f.counted)

pub column-requires-clause-small : goal.column-requires-clause-small
column-requires-clause-small c =
    let f = found_at c.args.self.now c.requires.indexed.marked c.args.number c.deref.result.now c.deref.ensures.value c.in-Some.k c.in-Some.ensures c.index-line.result.now c.index-line.ensures in
    let units = c.deref-in-Some.ensures.value ∙ sym f.units in
    omega (arith, ap sum units, (line_fields c.args.self.now c.requires.indexed c.args.number c.requires.within).small, c.requires.indexed.small)

pub returns-in-Some : goal.returns-in-Some
returns-in-Some c =
    let f = found_at c.args.self.now c.requires.indexed.marked c.args.number c.deref.result.now c.deref.ensures.value c.in-Some.k c.in-Some.ensures c.index-line.result.now c.index-line.ensures in
    c.column.ensures
    ∙ ap (λ u. kept_column u (c.min.result - c.at-2.result)) (c.deref-in-Some.ensures.value ∙ sym f.units)
    ∙ ap (λ x. kept_column (units_at c.args.number c.args.self.now.wide.items) (x - c.at-2.result)) (c.min.ensures ∙ ap (min c.args.offset) c.at.ensures)
    ∙ ap (λ y. kept_column (units_at c.args.number c.args.self.now.wide.items) (min c.args.offset (get_or c.args.self.now.ends c.args.number 0) - y)) c.at-2.ensures

pub returns-in-None : goal.returns-in-None
returns-in-None c =
    let none : units_at c.args.number c.args.self.now.wide.items ≡ [] = subst (λ ws. units_at c.args.number ws ≡ []) c.deref.ensures.value (absent c.args.number c.deref.result.now c.in-None.ensures) in
    ap (λ x. x - c.at-2.result) (c.min.ensures ∙ ap (min c.args.offset) c.at.ensures)
    ∙ ap (λ y. min c.args.offset (get_or c.args.self.now.ends c.args.number 0) - y) c.at-2.ensures
    ∙ ap (λ u. kept_column u (min c.args.offset (get_or c.args.self.now.ends c.args.number 0) - get_or c.args.self.now.starts c.args.number 0)) (sym none)
