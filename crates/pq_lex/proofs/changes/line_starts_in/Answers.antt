use Rattle.std.proofs.Common.{◌≡◌, ◌+◌, ◌≤◌, get_or, arith}
use Rattle.pq_lex.specs.Lines.{line_number}
use Rattle.pq_lex.proofs.LineSearch.{one_at_most, one_counted}
use Rattle.pq_lex.proofs.changes.line_starts_in.Goals as goal

pub loop-i-preserved : goal.loop-i-preserved
loop-i-preserved c =
    let more = one_counted c.args.bytes.now c.loop-i.i in
    let is : line_number c.args.bytes.now c.args.at + c.loop-i.count ≡ line_number c.args.bytes.now c.loop-i.i = c.loop-i.invariant.0 in
    let low : c.args.at + c.loop-i.count ≤ c.loop-i.i = c.loop-i.invariant.1 in
    let small = one_at_most (get_or c.args.bytes.now c.loop-i.i 0) (get_or c.args.bytes.now (c.loop-i.i + 1) 0) c.starts_after-count.result c.starts_after-count.ensures in
    (omega (arith, more, is, c.starts_after-count.ensures), omega (arith, low, small))
