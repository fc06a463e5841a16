use Rattle.std.proofs.Common.{◌≡◌, ◌+◌, ◌≤◌, get_or, length, map, sum, take, arith}
use Rattle.pq_lex.specs.Lines.{units_of}
use Rattle.pq_lex.proofs.BlockLemmas.{all_units, one_unit, unit_le, units_to_le}
use Rattle.pq_lex.proofs.block.count_units.Goals as goal

pub overflow_add-count : goal.overflow_add-count
overflow_add-count c =
    let is : c.parts.count ≡ sum (take c.parts.at (map units_of c.args.bytes.now)) = c.parts.invariant.1 in
    let small = units_to_le c.args.bytes.now (c.parts.at + 64) in
    omega (arith, c.parts-test.true, c.requires, is, small, c.units_in.ensures, c.from-count.ensures)

pub parts-preserved : goal.parts-preserved
parts-preserved c =
    let within : c.parts.at ≤ length c.args.bytes.now = c.parts.invariant.0 in
    let is : c.parts.count ≡ sum (take c.parts.at (map units_of c.args.bytes.now)) = c.parts.invariant.1 in
    let small = units_to_le c.args.bytes.now (c.parts.at + 64) in (
      omega (arith, c.parts-test.true, within),
      omega (arith, is, c.units_in.ensures, c.from-count.ensures),
      omega (arith, is, small, c.units_in.ensures, c.from-count.ensures),
    )

pub bytes-preserved : goal.bytes-preserved
bytes-preserved c =
    let is : c.bytes.count ≡ sum (take c.bytes.at (map units_of c.args.bytes.now)) = c.bytes.invariant.1 in
    let low = c.bytes.invariant.2 in
    let more = one_unit c.args.bytes.now c.bytes.at c.bytes-test.true in
    let small = unit_le (get_or c.args.bytes.now c.bytes.at 0) in (
      omega (arith, c.bytes-test.true),
      omega (arith, is, more, c.units_of.ensures, c.from-count-in-bytes.ensures),
      omega (arith, low, small, c.units_of.ensures, c.from-count-in-bytes.ensures),
    )

pub returns : goal.returns
returns c =
    let is : c.bytes.count ≡ sum (take c.bytes.at (map units_of c.args.bytes.now)) = c.bytes.invariant.1 in
    let all = all_units c.args.bytes.now c.bytes.at c.bytes-test.false in
    omega (arith, is, all)
