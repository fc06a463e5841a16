use Rattle.std.proofs.Common.{◌≡◌, ◌+◌, ◌≤◌, length, map, sum, take, arith}
use Rattle.pq_lex.specs.Lines.{units_of}
use Rattle.pq_lex.proofs.changes.skip_parts.Goals as goal

pub parts-preserved : goal.parts-preserved
parts-preserved c =
    let within : c.parts.at ≤ length c.args.line.now = c.parts.invariant.0 in
    let is : c.parts.left + sum (take c.parts.at (map units_of c.args.line.now)) ≡ c.args.column = c.parts.invariant.1 in
    (omega (arith, within, c.parts-test.true), omega (arith, is, c.units_in.ensures, c.from-passed.ensures, c.if-left-passed.false))
