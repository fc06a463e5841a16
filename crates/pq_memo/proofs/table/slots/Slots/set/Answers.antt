use Rattle.std.proofs.Common.{[], Some}
use Rattle.pq_rules.proofs.Weight.{Exact}
use Rattle.pq_memo.specs.aux.Numbers.{number_in}
use Rattle.pq_memo.proofs.SlotCalls.{slot_within, numbered_written, memo_written, rooms_written}
use Rattle.pq_memo.proofs.table.slots.Slots.set.Goals as goal

pub set_at-requires : goal.set_at-requires
set_at-requires g c = slot_within c.args.self.now c.self.inside.slots.items c.args.number c.args._key.now c.self.view_is c.requires

pub invariant_of-self : goal.invariant_of-self
invariant_of-self g c =
    let laws = g.met.R.Rules.lawful c.args._rules.now [] in
    let exact : Exact g.R.Key.Ord.cmp = record { total = g.met.R.Key.Ord.total; exact = laws.exact } in
    numbered_written g.R.Key.Ord.cmp exact (number_in g.R.Key.Ord.cmp g.R.Rules.codes c.self.inside.numbers) c.self.inside.slots.items c.args.self.now c.self.invariant c.self.view_is
    c.set_at.new.slots.items c.args._key.now c.args.number c.requires (Some c.args.entry) c.set_at.ensures

pub returns-clause-put : goal.returns-clause-put
returns-clause-put g c =
    let laws = g.met.R.Rules.lawful c.args._rules.now [] in
    let exact : Exact g.R.Key.Ord.cmp = record { total = g.met.R.Key.Ord.total; exact = laws.exact } in
    memo_written g.R.Key.Ord.cmp exact (number_in g.R.Key.Ord.cmp g.R.Rules.codes c.self.inside.numbers) c.self.inside.slots.items c.args.self.now c.self.invariant c.self.view_is
    c.set_at.new.slots.items c.args._key.now c.args.number c.requires (Some c.args.entry) c.set_at.ensures

pub returns-clause-kept : goal.returns-clause-kept
returns-clause-kept g c =
    let laws = g.met.R.Rules.lawful c.args._rules.now [] in
    let exact : Exact g.R.Key.Ord.cmp = record { total = g.met.R.Key.Ord.total; exact = laws.exact } in
    rooms_written g.R.Key.Ord.cmp exact (number_in g.R.Key.Ord.cmp g.R.Rules.codes c.self.inside.numbers) c.self.inside.slots.items c.args.self.now c.self.invariant c.self.view_is
    c.set_at.new.slots.items c.args._key.now c.args.number c.requires (Some c.args.entry) c.set_at.ensures
