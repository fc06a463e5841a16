use Rattle.std.proofs.Common.{arith}
use Rattle.pq_core.proofs.Slots.{pushed}
use Rattle.pq_core.proofs.store.rising.Rising.push_reserved.Goals as goal

pub invariant_of-self : goal.invariant_of-self
invariant_of-self g c =
    let above = rw (← c.self.view_is) at c.requires.above in
    let r = pushed c.self.inside.places.items c.make_room.new.places.items c.args.number c.args.value c.make_room.ensures.compacts above in
    let counted = c.self.invariant.counted in
    let more = r.counted in
    rw c.push_reserved.ensures.items (record { rises = r.rises; counted = omega arith })

pub returns-clause-found : goal.returns-clause-found
returns-clause-found g c =
    let above = rw (← c.self.view_is) at c.requires.above in
    let r = pushed c.self.inside.places.items c.make_room.new.places.items c.args.number c.args.value c.make_room.ensures.compacts above in
    rw (c.push_reserved.ensures.items, ← c.self.view_is) r.finds

pub returns-clause-above : goal.returns-clause-above
returns-clause-above g c =
    let above = rw (← c.self.view_is) at c.requires.above in
    let r = pushed c.self.inside.places.items c.make_room.new.places.items c.args.number c.args.value c.make_room.ensures.compacts above in
    rw (c.push_reserved.ensures.items, ← c.self.view_is) r.above
