use Rattle.std.proofs.Common.{None, refl, sym, ◌∙◌, ap, arith}
use Rattle.pq_core.specs.aux.Rising.{found}
use Rattle.pq_core.proofs.Slots.{found_nowhere, written, taken_count, count_most, by_number}
use Rattle.pq_core.proofs.store.rising.Rising.take.Goals as goal

pub returns-in-None-clause-value : goal.returns-in-None-clause-value
returns-in-None-clause-value g c =
    let none = rw c.deref.ensures.value at c.in-None.ensures.none in
    rw (← c.self.view_is) (sym (found_nowhere c.self.inside.places.items c.args.number none))

pub returns-in-None-clause-found : goal.returns-in-None-clause-found
returns-in-None-clause-found g c =
    let xs = c.self.inside.places.items in
    let none = rw c.deref.ensures.value at c.in-None.ensures.none in
    rw (← c.self.view_is) (λ n. by_number n c.args.number (found xs n) None (found xs n) (λ e. ap (found xs) e ∙ found_nowhere xs c.args.number none) (λ _. refl))

pub returns-in-None-take-clause-value : goal.returns-in-None-take-clause-value
returns-in-None-take-clause-value g c =
    let xs = c.self.inside.places.items in
    let here = rw c.deref.ensures.value at c.in-Some.ensures.here in
    let w = written xs c.in-Some.at c.args.number c.index_mut.result.now None c.self.invariant.rises here.0 c.index_mut.ensures.value here.1 in
    rw (← c.self.view_is) (c.in-None-take.ensures.value ∙ sym w.was)

pub returns-in-None-take-clause-found : goal.returns-in-None-take-clause-found
returns-in-None-take-clause-found g c =
    let xs = c.self.inside.places.items in
    let here = rw c.deref.ensures.value at c.in-Some.ensures.here in
    let w = written xs c.in-Some.at c.args.number c.index_mut.result.now None c.self.invariant.rises here.0 c.index_mut.ensures.value here.1 in
    rw (c.take.ensures.after, ← c.self.view_is) w.finds

pub returns-in-None-take-clause-numbers : goal.returns-in-None-take-clause-numbers
returns-in-None-take-clause-numbers g c =
    let xs = c.self.inside.places.items in
    let here = rw c.deref.ensures.value at c.in-Some.ensures.here in
    let w = written xs c.in-Some.at c.args.number c.index_mut.result.now None c.self.invariant.rises here.0 c.index_mut.ensures.value here.1 in
    rw (c.take.ensures.after, ← c.self.view_is) w.numbered

pub overflow_sub-self : goal.overflow_sub-self
overflow_sub-self g c =
    let xs = c.self.inside.places.items in
    let here = rw c.deref.ensures.value at c.in-Some.ensures.here in
    let w = written xs c.in-Some.at c.args.number c.index_mut.result.now None c.self.invariant.rises here.0 c.index_mut.ensures.value here.1 in
    let k = taken_count xs c.in-Some.at c.args.number c.index_mut.result.now c.in-Some-take.value w c.in-Some-take.ensures.value in
    let counted = c.self.invariant.counted in
    omega arith

pub invariant_of-self-in-Some-take : goal.invariant_of-self-in-Some-take
invariant_of-self-in-Some-take g c =
    let xs = c.self.inside.places.items in
    let here = rw c.deref.ensures.value at c.in-Some.ensures.here in
    let w = written xs c.in-Some.at c.args.number c.index_mut.result.now None c.self.invariant.rises here.0 c.index_mut.ensures.value here.1 in
    let k = taken_count xs c.in-Some.at c.args.number c.index_mut.result.now c.in-Some-take.value w c.in-Some-take.ensures.value in
    let counted = c.self.invariant.counted in
    rw c.take.ensures.after (record { rises = w.rises; counted = omega arith })

pub returns-in-Some-take-clause-value : goal.returns-in-Some-take-clause-value
returns-in-Some-take-clause-value g c =
    let xs = c.self.inside.places.items in
    let here = rw c.deref.ensures.value at c.in-Some.ensures.here in
    let w = written xs c.in-Some.at c.args.number c.index_mut.result.now None c.self.invariant.rises here.0 c.index_mut.ensures.value here.1 in
    rw (← c.self.view_is) (c.in-Some-take.ensures.value ∙ sym w.was)

pub returns-in-Some-take-clause-found : goal.returns-in-Some-take-clause-found
returns-in-Some-take-clause-found g c =
    let xs = c.self.inside.places.items in
    let here = rw c.deref.ensures.value at c.in-Some.ensures.here in
    let w = written xs c.in-Some.at c.args.number c.index_mut.result.now None c.self.invariant.rises here.0 c.index_mut.ensures.value here.1 in
    rw (c.take.ensures.after, ← c.self.view_is) w.finds

pub returns-in-Some-take-clause-vacant : goal.returns-in-Some-take-clause-vacant
returns-in-Some-take-clause-vacant g c =
    let xs = c.self.inside.places.items in
    let here = rw c.deref.ensures.value at c.in-Some.ensures.here in
    let w = written xs c.in-Some.at c.args.number c.index_mut.result.now None c.self.invariant.rises here.0 c.index_mut.ensures.value here.1 in
    rw c.take.ensures.after (record { at = c.in-Some.at; here = w.here })

pub returns-in-Some-take-clause-numbers : goal.returns-in-Some-take-clause-numbers
returns-in-Some-take-clause-numbers g c =
    let xs = c.self.inside.places.items in
    let here = rw c.deref.ensures.value at c.in-Some.ensures.here in
    let w = written xs c.in-Some.at c.args.number c.index_mut.result.now None c.self.invariant.rises here.0 c.index_mut.ensures.value here.1 in
    rw (c.take.ensures.after, ← c.self.view_is) w.numbered

pub returns-in-Some-take-clause-more_room : goal.returns-in-Some-take-clause-more_room
returns-in-Some-take-clause-more_room g c =
    let xs = c.self.inside.places.items in
    let here = rw c.deref.ensures.value at c.in-Some.ensures.here in
    let w = written xs c.in-Some.at c.args.number c.index_mut.result.now None c.self.invariant.rises here.0 c.index_mut.ensures.value here.1 in
    let k = taken_count xs c.in-Some.at c.args.number c.index_mut.result.now c.in-Some-take.value w c.in-Some-take.ensures.value in
    let counted = c.self.invariant.counted in
    let most = count_most xs in
    let ok = c.self.inside.places.ok.0 in
    let cap = c.self.inside.places.ok.1 in
    rw (← c.self.view_is) (omega arith)

pub returns-in-Some-take-clause-above : goal.returns-in-Some-take-clause-above
returns-in-Some-take-clause-above g c =
    let xs = c.self.inside.places.items in
    let here = rw c.deref.ensures.value at c.in-Some.ensures.here in
    let w = written xs c.in-Some.at c.args.number c.index_mut.result.now None c.self.invariant.rises here.0 c.index_mut.ensures.value here.1 in
    rw (c.take.ensures.after, ← c.self.view_is) w.above
