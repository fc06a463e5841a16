use Rattle.std.proofs.Common.{◌-◌, ◌*◌, ◌/◌, arith}
use Rattle.pq_lex.specs.aux.Kept.{interval}
use Rattle.pq_lex.proofs.Counts.{part_le, front_le, units_before_is}
use Rattle.pq_lex.proofs.lines.units_before.Goals as goal

pub total-requires : goal.total-requires
total-requires c = omega (arith, c.requires.small, part_le c.args.units.now (c.args.at / interval * interval) (c.args.at - c.args.at / interval * interval))

pub overflow_add-result : goal.overflow_add-result
overflow_add-result c = omega (arith, c.requires.small, front_le c.args.units.now c.args.at, units_before_is c.args.units.now c.args.counts.now c.requires.counted c.args.at c.requires.within, c.count_before.ensures, c.total.ensures)

pub returns : goal.returns
returns c = omega (arith, units_before_is c.args.units.now c.args.counts.now c.requires.counted c.args.at c.requires.within, c.count_before.ensures, c.total.ensures)
