use Rattle.std.proofs.Common.{length, arith}
use Rattle.pq_lex.proofs.BlockLemmas.{is_zero, lines_end, lines_none}
use Rattle.pq_lex.proofs.ChangeLemmas.{some_first}
use Rattle.pq_lex.proofs.block.count_lines.Goals as goal

pub returns-then-is_empty : goal.returns-then-is_empty
returns-then-is_empty c = lines_none c.args.bytes.now c.args.next (is_zero (length c.args.bytes.now) (c.if-is_empty.ensures {u = tt}))

pub returns : goal.returns
returns c =
    let end = lines_end c.args.bytes.now c.args.next (some_first (length c.args.bytes.now) (c.if-is_empty.ensures {u = tt})) in
    omega (arith, end, c.lines_before_last.ensures.is, c.from.ensures, c.starts_after.ensures)
