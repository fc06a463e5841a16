use Rattle.std.proofs.Common.{[]}
use Rattle.pq_rules.proofs.Weight.{Exact}
use Rattle.pq_memo.specs.aux.Numbers.{number_in}
use Rattle.pq_memo.proofs.SlotCalls.{none_here, if_none}
use Rattle.pq_memo.proofs.table.slots.Slots.find.Goals as goal

pub returns-clause-none : goal.returns-clause-none
returns-clause-none g c =
    let laws = g.met.R.Rules.lawful c.args.rules.now [] in
    let exact : Exact g.R.Key.Ord.cmp = record { total = g.met.R.Key.Ord.total; exact = laws.exact } in
    if_none c.get.result
    (none_here g.R.Key.Ord.cmp exact (number_in g.R.Key.Ord.cmp g.R.Rules.codes c.self.inside.numbers) c.self.inside.slots.items c.args.self.now c.self.invariant c.self.view_is c.args.key.now c.get.result c.get.ensures)
