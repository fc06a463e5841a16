use Rattle.std.proofs.Common.{◌+◌, ◌<◌, get_or, length, sym, arith}
use Rattle.pq_lex.proofs.BlockLemmas.{no_number, number_le}
use Rattle.pq_lex.proofs.LineSearch.{one_at_most, one_counted}
use Rattle.pq_lex.proofs.block.lines_before_last.Goals as goal

pub parts-init : goal.parts-init
parts-init c = (c.requires, sym (no_number c.args.bytes.now), omega arith)

pub parts-preserved : goal.parts-preserved
parts-preserved c =
    let within : c.parts.at < length c.args.bytes.now = c.parts.invariant.0 in
    let is = c.parts.invariant.1 in
    let most = number_le c.args.bytes.now (c.parts.at + 128) in
    (omega (arith, c.parts-test.true, within), omega (arith, is, c.from-count.ensures, c.line_starts_in.ensures), omega (arith, is, most, c.from-count.ensures, c.line_starts_in.ensures))

pub bytes-preserved : goal.bytes-preserved
bytes-preserved c =
    let more = one_counted c.args.bytes.now c.bytes.at in
    let is = c.bytes.invariant.1 in
    let low = c.bytes.invariant.2 in
    let small = one_at_most (get_or c.args.bytes.now c.bytes.at 0) (get_or c.args.bytes.now (c.bytes.at + 1) 0) c.starts_after.result c.starts_after.ensures in
    (omega (arith, c.bytes-test.true), omega (arith, more, is, c.starts_after.ensures, c.from-count-in-bytes.ensures), omega (arith, low, small, c.from-count-in-bytes.ensures))
