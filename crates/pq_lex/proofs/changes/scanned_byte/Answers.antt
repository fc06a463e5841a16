use Rattle.std.proofs.Common.{◌≡◌, ◌+◌, length, map, sum, take, get_or, ap, subst, arith}
use Rattle.std.proofs.lemmas.List.{get_or-map, length-map, take_all}
use Rattle.pq_lex.specs.Lines.{units_of}
use Rattle.pq_lex.specs.aux.LineMarks.{IsByte}
use Rattle.pq_lex.proofs.UnitLemmas.{byte_end, byte_found, sum_take}
use Rattle.pq_lex.proofs.changes.scanned_byte.Goals as goal

pub returns-then-left-width : goal.returns-then-left-width
returns-then-left-width c =
    let unit : get_or (map units_of c.args.line.now) c.loop-i.i 0 ≡ units_of (get_or c.args.line.now c.loop-i.i 0) = get_or-map units_of c.args.line.now c.loop-i.i 0 0 c.loop-i-test.true in
    byte_found (map units_of c.args.line.now) c.args.column c.loop-i.left c.loop-i.i (omega (arith, c.loop-i-test.true, length-map c.args.line.now units_of)) c.loop-i.invariant
    (omega (arith, unit, c.units_of.ensures, c.from-width.ensures, c.if-left-width.true))

pub returns : goal.returns
returns c =
    let len : length (map units_of c.args.line.now) ≡ length c.args.line.now = length-map c.args.line.now units_of in
    let all : take c.loop-i.i (map units_of c.args.line.now) ≡ map units_of c.args.line.now = take_all c.loop-i.i (map units_of c.args.line.now) (omega (arith, len, c.loop-i-test.false)) in
    subst (IsByte (map units_of c.args.line.now) c.args.column) len (byte_end (map units_of c.args.line.now) c.args.column c.loop-i.left (omega (arith, c.loop-i.invariant, ap sum all)))

pub loop-i-preserved : goal.loop-i-preserved
loop-i-preserved c =
    let unit : get_or (map units_of c.args.line.now) c.loop-i.i 0 ≡ units_of (get_or c.args.line.now c.loop-i.i 0) = get_or-map units_of c.args.line.now c.loop-i.i 0 0 c.loop-i-test.true in
    let more = sum_take (map units_of c.args.line.now) c.loop-i.i (omega (arith, c.loop-i-test.true, length-map c.args.line.now units_of)) in
    let is : c.loop-i.left + sum (take c.loop-i.i (map units_of c.args.line.now)) ≡ c.args.column = c.loop-i.invariant in
    omega (arith, unit, more, is, c.units_of.ensures, c.from-width.ensures, c.if-left-width.false)
