use Rattle.std.proofs.Common.{sym, ◌∙◌, arith}
use Rattle.pq_core.proofs.Slots.{compacts_all, count_most}
use Rattle.pq_core.proofs.store.rising.Rising.reserve.Goals as goal

pub overflow_sub-capacity : goal.overflow_sub-capacity
overflow_sub-capacity g c =
    let most = count_most c.self.inside.places.items in
    let counted = c.self.invariant.counted in
    let ok = c.self.inside.places.ok.0 in
    let cap = c.self.inside.places.ok.1 in
    omega arith

pub invariant_of-self : goal.invariant_of-self
invariant_of-self g c =
    let k = compacts_all c.self.inside.places.items c.reserve.new.self.items c.self.invariant.rises (c.reserve.ensures.items ∙ c.compact.ensures.items) in
    record { rises = k.rises; counted = c.self.invariant.counted ∙ sym k.counted }

pub returns-in_err-reserve-clause-same : goal.returns-in_err-reserve-clause-same
returns-in_err-reserve-clause-same g c =
    let k = compacts_all c.self.inside.places.items c.reserve.new.self.items c.self.invariant.rises (c.reserve.ensures.items ∙ c.compact.ensures.items) in
    rw (← c.self.view_is) k.same

pub invariant_of-self-2 : goal.invariant_of-self-2
invariant_of-self-2 g c =
    let k = compacts_all c.self.inside.places.items c.reserve.new.self.items c.self.invariant.rises (c.reserve.ensures.items ∙ c.compact.ensures.items) in
    record { rises = k.rises; counted = c.self.invariant.counted ∙ sym k.counted }

pub returns-clause-same : goal.returns-clause-same
returns-clause-same g c =
    let k = compacts_all c.self.inside.places.items c.reserve.new.self.items c.self.invariant.rises (c.reserve.ensures.items ∙ c.compact.ensures.items) in
    rw (← c.self.view_is) k.same
