use Rattle.std.proofs.Common.{◌-◌, ◌*◌, drop, ◌∙◌, subst, arith}
use Rattle.pq_lex.specs.aux.Kept.{interval}
use Rattle.pq_lex.specs.aux.LineMarks.{IsByte}
use Rattle.pq_lex.proofs.Counts.{range_from, block_starts, byte_from}
use Rattle.pq_lex.proofs.lines.byte_at.Goals as goal

pub returns : goal.returns
returns c =
    let count = c.requires.each c.block_of-block.result c.block_of-block.ensures.within in
    byte_from c.args.units.now c.args.column (c.block_of-block.result * interval) c.scanned_byte.result
    (block_starts c.args.units.now c.args.counts.now c.requires c.block_of-block.result c.block_of-block.ensures.within)
    (omega (arith, count, c.block_of-block.ensures.before))
    (subst (λ k. IsByte (drop (c.block_of-block.result * interval) c.args.units.now) (c.args.column - k) c.scanned_byte.result) (c.count_before.ensures ∙ count)
    (subst (λ u. IsByte u (c.args.column - c.count_before.result) c.scanned_byte.result) (range_from c.args.units.now (c.block_of-block.result * interval)) c.scanned_byte.ensures))
