use Rattle.std.proofs.Common.{get_or, arith}
use Rattle.pq_lex.proofs.BlockLemmas.{one_unit, unit_le}
use Rattle.pq_lex.proofs.block.units_in.Goals as goal

pub loop-i-preserved : goal.loop-i-preserved
loop-i-preserved c =
    let more = one_unit c.args.bytes.now c.loop-i.i (omega (arith, c.loop-i-test.true, c.requires)) in
    let small = unit_le (get_or c.args.bytes.now c.loop-i.i 0) in
    let is = c.loop-i.invariant.0 in
    let low = c.loop-i.invariant.1 in
    (omega (arith, more, is, c.units_of-count.ensures), omega (arith, low, small, c.units_of-count.ensures))
