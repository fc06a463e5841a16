use Rattle.std.proofs.Common.{length, ap, arith}
use Rattle.pq_schema.proofs.LastDots.{parts_more, part_within}
use Rattle.pq_schema.proofs.names.spelled.left_after.Goals as goal

pub parts-preserved : goal.parts-preserved
parts-preserved c =
    let more = parts_more c.args.parts.now c.parts.i c.index-parts-i.result c.parts-test.true in
    omega (arith, more, ap length c.as_str-count.ensures.same, ap length c.index-parts-i.is)

pub returns-then-left-count-clause-left : goal.returns-then-left-count-clause-left
returns-then-left-count-clause-left c fits =
    let part = part_within c.args.parts.now c.parts.i c.index-parts-i.result c.parts-test.true in
    absurd (omega (arith, part, fits, ap length c.as_str-count.ensures.same, ap length c.index-parts-i.is))
