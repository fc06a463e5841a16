use Rattle.std.proofs.Common.{[], ◌<◌, ◌∙◌, length, arith}
use Rattle.pq_rules.proofs.Weight.{Exact}
use Rattle.pq_memo.specs.aux.Numbers.{number_in}
use Rattle.pq_memo.proofs.SlotCalls.{slot_within, memo_here}
use Rattle.pq_memo.proofs.table.slots.Slots.entry_at.Goals as goal

pub bounds-as_slice-number : goal.bounds-as_slice-number
bounds-as_slice-number g c = slot_within c.args.self.now c.as_slice.result.now c.args.number c.args._key.now (c.as_slice.ensures.value ∙ c.self.view_is) c.requires

pub offset_bounds-as_slice-number : goal.offset_bounds-as_slice-number
offset_bounds-as_slice-number g c = let b : c.args.number < length c.as_slice.result.now = bounds-as_slice-number g c in omega arith

pub returns : goal.returns
returns g c =
    let laws = g.met.R.Rules.lawful c.args._rules.now [] in
    let exact : Exact g.R.Key.Ord.cmp = record { total = g.met.R.Key.Ord.total; exact = laws.exact } in
    memo_here g.R.Key.Ord.cmp exact (number_in g.R.Key.Ord.cmp g.R.Rules.codes c.self.inside.numbers) c.self.inside.slots.items c.args.self.now c.self.invariant c.self.view_is
    c.as_slice.result.now c.args._key.now c.args.number c.index-as_slice-number.result _ c.as_slice.ensures.value c.requires
    (slot_within c.args.self.now c.as_slice.result.now c.args.number c.args._key.now (c.as_slice.ensures.value ∙ c.self.view_is) c.requires)
    c.index-as_slice-number.is c.entry.ensures
