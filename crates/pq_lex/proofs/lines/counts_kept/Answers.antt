use Rattle.std.proofs.Common.{◌+◌, ◌-◌, ◌*◌, sym, subst, arith}
use Rattle.pq_lex.specs.aux.Kept.{interval}
use Rattle.pq_lex.proofs.Counts.{CountedTo, part_le, front_le, next_counted}
use Rattle.pq_lex.proofs.lines.counts_kept.Goals as goal

pub total-count-requires : goal.total-count-requires
total-count-requires c = omega (arith, c.requires, part_le c.args.units.now (c.loop-block.block * interval) (c.loop-block.block * interval + interval - c.loop-block.block * interval))

pub overflow_add-count : goal.overflow_add-count
overflow_add-count c =
    let next = next_counted c.args.units.now c.loop-block.counts.items c.loop-block.block c.loop-block.count c.total-count.result c.loop-block.invariant c.total-count.ensures in
    omega (arith, c.requires, next.now, front_le c.args.units.now ((c.loop-block.block + 1) * interval))

pub loop-block-preserved : goal.loop-block-preserved
loop-block-preserved c =
    let next = next_counted c.args.units.now c.loop-block.counts.items c.loop-block.block c.loop-block.count c.total-count.result c.loop-block.invariant c.total-count.ensures in
    subst (λ counts. CountedTo c.args.units.now counts (c.loop-block.block + 1) (c.loop-block.count + c.total-count.result)) (sym c.in_ok-push.ensures.items) next
