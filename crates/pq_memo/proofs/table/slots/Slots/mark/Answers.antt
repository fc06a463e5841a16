use Rattle.std.proofs.Common.{[]}
use Rattle.std.specs.Option.{option_map}
use Rattle.pq_rules.proofs.Weight.{Exact}
use Rattle.pq_memo.specs.Sound.{Memo}
use Rattle.pq_memo.specs.Table.{joined}
use Rattle.pq_memo.specs.Writes.{remarked}
use Rattle.pq_memo.specs.aux.Slots.{value_at}
use Rattle.pq_memo.specs.aux.Numbers.{number_in}
use Rattle.pq_memo.proofs.SlotCalls.{slot_within, numbered_written, memo_changed}
use Rattle.pq_memo.proofs.table.slots.Slots.mark.Goals as goal

pub mark_at-requires : goal.mark_at-requires
mark_at-requires g c = slot_within c.args.self.now c.self.inside.slots.items c.args.number c.requires.0 c.self.view_is c.requires.1

pub invariant_of-self : goal.invariant_of-self
invariant_of-self g c =
    let laws = g.met.R.Rules.lawful c.args._rules.now [] in
    let exact : Exact g.R.Key.Ord.cmp = record { total = g.met.R.Key.Ord.total; exact = laws.exact } in
    numbered_written g.R.Key.Ord.cmp exact (number_in g.R.Key.Ord.cmp g.R.Rules.codes c.self.inside.numbers) c.self.inside.slots.items c.args.self.now c.self.invariant c.self.view_is
    c.mark_at.new.slots.items c.requires.0 c.args.number c.requires.1
    (option_map (λ (m : Memo g.row.R-Key.Denot g.row.R-Value.Denot). remarked m c.args.revision c.args.durability) (joined (value_at c.self.inside.slots.items c.args.number)))
    c.mark_at.ensures

pub returns : goal.returns
returns g c =
    let laws = g.met.R.Rules.lawful c.args._rules.now [] in
    let exact : Exact g.R.Key.Ord.cmp = record { total = g.met.R.Key.Ord.total; exact = laws.exact } in
    record {
      marked = λ k q there. memo_changed g.R.Key.Ord.cmp exact (number_in g.R.Key.Ord.cmp g.R.Rules.codes c.self.inside.numbers) c.self.inside.slots.items c.args.self.now c.self.invariant c.self.view_is
          c.mark_at.new.slots.items k c.args.number there
          (option_map (λ (m : Memo g.row.R-Key.Denot g.row.R-Value.Denot). remarked m c.args.revision c.args.durability)) c.mark_at.ensures q;
    }
