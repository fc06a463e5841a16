use Rattle.std.proofs.Common.{[]}
use Rattle.pq_rules.proofs.Weight.{Exact}
use Rattle.pq_memo.specs.aux.Numbers.{number_in}
use Rattle.pq_memo.proofs.SlotCalls.{room_here, known_room, fresh_numbered, fresh_same, fresh_room, fresh_rooms}
use Rattle.pq_memo.proofs.table.slots.Slots.make_room.Goals as goal

pub returns-in-Some-clause-room : goal.returns-in-Some-clause-room
returns-in-Some-clause-room g c =
    let laws = g.met.R.Rules.lawful c.args.rules.now [] in
    let exact : Exact g.R.Key.Ord.cmp = record { total = g.met.R.Key.Ord.total; exact = laws.exact } in
    room_here g.R.Key.Ord.cmp exact (number_in g.R.Key.Ord.cmp g.R.Rules.codes c.self.inside.numbers) c.self.inside.slots.items c.args.self.now c.self.invariant c.self.view_is
    c.args.key.now c.in-Some.field-0 c.in-Some.ensures

pub returns-in-Ok-Some-clause-room : goal.returns-in-Ok-Some-clause-room
returns-in-Ok-Some-clause-room g c =
    let laws = g.met.R.Rules.lawful c.args.rules.now [] in
    let exact : Exact g.R.Key.Ord.cmp = record { total = g.met.R.Key.Ord.total; exact = laws.exact } in
    known_room g.R.Key.Ord.cmp exact (number_in g.R.Key.Ord.cmp g.R.Rules.codes c.self.inside.numbers) c.self.inside.slots.items c.reserve.new.self.items c.self.invariant c.args.key.now c.in_ok-shared.shared
    c.in-Ok-Some.known (c.in_ok-shared.ensures {u = tt}) (rw c.in-Ok-Some.field-0-is at c.in-Ok-Some.ensures.had) c.reserve.ensures.items

pub invariant_of-self-in-Ok-None : goal.invariant_of-self-in-Ok-None
invariant_of-self-in-Ok-None g c =
    let laws = g.met.R.Rules.lawful c.args.rules.now [] in
    let exact : Exact g.R.Key.Ord.cmp = record { total = g.met.R.Key.Ord.total; exact = laws.exact } in
    fresh_numbered g.R.Key.Ord.cmp exact (number_in g.R.Key.Ord.cmp g.R.Rules.codes c.self.inside.numbers) (number_in g.R.Key.Ord.cmp g.R.Rules.codes c.claim.new.self) c.self.inside.slots.items c.args.self.now c.push_reserved.new.self.items
    c.reserve.new.self.items c.as_slice-number.result.now c.self.invariant c.self.view_is c.args.key.now c.in_ok-shared.shared c.in_ok-shared.shared
    (c.in_ok-shared.ensures {u = tt}) (c.in_ok-shared.ensures {u = tt}) (rw c.in-Ok-None.field-0-is at c.in-Ok-None.ensures.had)
    c.reserve.ensures.items c.push_reserved.ensures.items
    c.as_slice-number.ensures.value (rw c.in-Ok-None.field-0-is at c.in-Ok-None.ensures.put)

pub returns-in-Ok-None-clause-same : goal.returns-in-Ok-None-clause-same
returns-in-Ok-None-clause-same g c =
    let laws = g.met.R.Rules.lawful c.args.rules.now [] in
    let exact : Exact g.R.Key.Ord.cmp = record { total = g.met.R.Key.Ord.total; exact = laws.exact } in
    fresh_same g.R.Key.Ord.cmp exact (number_in g.R.Key.Ord.cmp g.R.Rules.codes c.self.inside.numbers) (number_in g.R.Key.Ord.cmp g.R.Rules.codes c.claim.new.self) c.self.inside.slots.items c.args.self.now c.push_reserved.new.self.items
    c.reserve.new.self.items c.as_slice-number.result.now c.self.invariant c.self.view_is c.args.key.now c.in_ok-shared.shared c.in_ok-shared.shared
    (c.in_ok-shared.ensures {u = tt}) (c.in_ok-shared.ensures {u = tt}) (rw c.in-Ok-None.field-0-is at c.in-Ok-None.ensures.had)
    c.reserve.ensures.items c.push_reserved.ensures.items

pub returns-in-Ok-None-clause-room : goal.returns-in-Ok-None-clause-room
returns-in-Ok-None-clause-room g c =
    let laws = g.met.R.Rules.lawful c.args.rules.now [] in
    let exact : Exact g.R.Key.Ord.cmp = record { total = g.met.R.Key.Ord.total; exact = laws.exact } in
    fresh_room g.R.Key.Ord.cmp exact (number_in g.R.Key.Ord.cmp g.R.Rules.codes c.self.inside.numbers) (number_in g.R.Key.Ord.cmp g.R.Rules.codes c.claim.new.self) c.self.inside.slots.items c.args.self.now c.push_reserved.new.self.items
    c.reserve.new.self.items c.as_slice-number.result.now c.self.invariant c.self.view_is c.args.key.now c.in_ok-shared.shared c.in_ok-shared.shared
    (c.in_ok-shared.ensures {u = tt}) (c.in_ok-shared.ensures {u = tt}) (rw c.in-Ok-None.field-0-is at c.in-Ok-None.ensures.had)
    c.reserve.ensures.items c.push_reserved.ensures.items

pub returns-in-Ok-None-clause-kept : goal.returns-in-Ok-None-clause-kept
returns-in-Ok-None-clause-kept g c =
    let laws = g.met.R.Rules.lawful c.args.rules.now [] in
    let exact : Exact g.R.Key.Ord.cmp = record { total = g.met.R.Key.Ord.total; exact = laws.exact } in
    fresh_rooms g.R.Key.Ord.cmp exact (number_in g.R.Key.Ord.cmp g.R.Rules.codes c.self.inside.numbers) (number_in g.R.Key.Ord.cmp g.R.Rules.codes c.claim.new.self) c.self.inside.slots.items c.args.self.now c.push_reserved.new.self.items
    c.reserve.new.self.items c.as_slice-number.result.now c.self.invariant c.self.view_is c.args.key.now c.in_ok-shared.shared c.in_ok-shared.shared
    (c.in_ok-shared.ensures {u = tt}) (c.in_ok-shared.ensures {u = tt}) (rw c.in-Ok-None.field-0-is at c.in-Ok-None.ensures.had)
    c.reserve.ensures.items c.push_reserved.ensures.items
