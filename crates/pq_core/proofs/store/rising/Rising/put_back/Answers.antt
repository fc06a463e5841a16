use Rattle.std.proofs.Common.{Some, sym, ◌∙◌, arith}
use Rattle.pq_core.proofs.Slots.{written, put_count, vacant_found}
use Rattle.pq_core.proofs.store.rising.Rising.put_back.Goals as goal

pub overflow_add-self : goal.overflow_add-self
overflow_add-self g c =
    let xs = c.self.inside.places.items in
    let here = rw c.deref.ensures.value at c.in-Some.ensures.here in
    let w = written xs c.in-Some.at c.args.number c.index_mut.result.now (Some c.args.value) c.self.invariant.rises here.0 c.index_mut.ensures.value here.1 in
    let vacant = rw (← c.self.view_is) at c.requires in
    let k = put_count xs c.in-Some.at c.args.number c.index_mut.result.now c.args.value w (sym w.was ∙ vacant_found xs c.args.number c.self.invariant.rises vacant) in
    let counted = c.self.invariant.counted in
    let most = w.most in
    let ok = c.self.inside.places.ok.0 in
    let cap = c.self.inside.places.ok.1 in
    let small = c.self.inside.places.small in
    omega arith

pub invariant_of-self : goal.invariant_of-self
invariant_of-self g c =
    let xs = c.self.inside.places.items in
    let here = rw c.deref.ensures.value at c.in-Some.ensures.here in
    let w = written xs c.in-Some.at c.args.number c.index_mut.result.now (Some c.args.value) c.self.invariant.rises here.0 c.index_mut.ensures.value here.1 in
    let vacant = rw (← c.self.view_is) at c.requires in
    let k = put_count xs c.in-Some.at c.args.number c.index_mut.result.now c.args.value w (sym w.was ∙ vacant_found xs c.args.number c.self.invariant.rises vacant) in
    let counted = c.self.invariant.counted in
    record { rises = w.rises; counted = omega arith }

pub returns-in-Some-clause-found : goal.returns-in-Some-clause-found
returns-in-Some-clause-found g c =
    let xs = c.self.inside.places.items in
    let here = rw c.deref.ensures.value at c.in-Some.ensures.here in
    let w = written xs c.in-Some.at c.args.number c.index_mut.result.now (Some c.args.value) c.self.invariant.rises here.0 c.index_mut.ensures.value here.1 in
    rw (← c.self.view_is) w.finds

pub returns-in-Some-clause-above : goal.returns-in-Some-clause-above
returns-in-Some-clause-above g c =
    let xs = c.self.inside.places.items in
    let here = rw c.deref.ensures.value at c.in-Some.ensures.here in
    let w = written xs c.in-Some.at c.args.number c.index_mut.result.now (Some c.args.value) c.self.invariant.rises here.0 c.index_mut.ensures.value here.1 in
    rw (← c.self.view_is) w.above
