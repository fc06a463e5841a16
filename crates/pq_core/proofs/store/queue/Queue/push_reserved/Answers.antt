use Rattle.std.proofs.Common.{arith}
use Rattle.pq_core.proofs.InTurn.{ready_at, turn_pushed, grown}
use Rattle.pq_core.proofs.store.queue.Queue.push_reserved.Goals as goal

pub invariant_of-self : goal.invariant_of-self
invariant_of-self c =
    let ready = rw (← c.self.view_is) at c.requires in
    let w = ready_at c.self.inside.turns.items c.self.inside.count c.self.inside.place c.args.client c.self.inside.ready c.index_mut.result.now c.self.invariant ready c.index_mut.ensures.value in
    let x = turn_pushed c.self.inside.turns.items c.self.inside.count c.self.inside.place c.args.client c.args.number c.index_mut.result.now c.push.new.self
    c.self.invariant.apart w c.push.ensures.client c.push.ensures.numbers in
    let more = grown _ _ _ _ x.0 in
    let counted = c.self.invariant.counted in
    record { counted = omega arith; apart = x.1; room = tt }

pub returns : goal.returns
returns c =
    let ready = rw (← c.self.view_is) at c.requires in
    let w = ready_at c.self.inside.turns.items c.self.inside.count c.self.inside.place c.args.client c.self.inside.ready c.index_mut.result.now c.self.invariant ready c.index_mut.ensures.value in
    let x = turn_pushed c.self.inside.turns.items c.self.inside.count c.self.inside.place c.args.client c.args.number c.index_mut.result.now c.push.new.self
    c.self.invariant.apart w c.push.ensures.client c.push.ensures.numbers in
    rw (← c.self.view_is) x.0
