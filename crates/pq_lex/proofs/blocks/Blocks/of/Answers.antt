use Rattle.std.proofs.Common.{length, ap, arith}
use Rattle.pq_lex.specs.aux.Blocks.{IsCut}
use Rattle.pq_lex.proofs.BlockEdits.{cut_blocks}
use Rattle.pq_lex.proofs.blocks.Blocks.of.Goals as goal

pub invariant_of-result : goal.invariant_of-result
invariant_of-result c =
    let cut : IsCut c.in_ok-cut.field-0.items c.args.text.now 0 = c.in_ok-cut.ensures in
    (cut_blocks c.in_ok-cut.field-0.items c.args.text.now cut (omega (arith, c.if-text-gt-LONGEST.false)), omega (arith, ap length cut.text))
