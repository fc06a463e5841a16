use Rattle.std.proofs.Common.{sym, ◌∙◌}
use Rattle.pq_core.proofs.Lists.{none_some}
use Rattle.pq_core.proofs.Slots.{found_nowhere}
use Rattle.pq_core.proofs.InPlace.{set_same, was_there, kept_there, above_there, set_there}
use Rattle.pq_core.proofs.store.rising.Rising.update.Goals as goal

pub change-requires : goal.change-requires
change-requires g c =
    let here = rw c.deref.ensures.value at c.in-Some.ensures.here in
    let was = was_there c.self.inside.places.items c.in-Some.at c.args.number c.index_mut.result.now c.index_mut.result.now.value c.self.inside.live c.self.invariant here.0 c.index_mut.ensures.value here.1 in
    λ value e. (rw (← c.self.view_is) at c.requires) value (was ∙ e)

pub invariant_of-self : goal.invariant_of-self
invariant_of-self g c =
    let here = rw c.deref.ensures.value at c.in-Some.ensures.here in
    kept_there c.self.inside.places.items c.in-Some.at c.args.number c.index_mut.result.now c.change.new.slot c.self.inside.live c.self.invariant here.0 c.index_mut.ensures.value here.1 (λ x e. (let r = c.change.ensures.«open» x e in (r.1, r.4))) (λ e. (c.change.ensures.closed e).1)

pub returns-in-Some-clause-open : goal.returns-in-Some-clause-open
returns-in-Some-clause-open g c =
    let here = rw c.deref.ensures.value at c.in-Some.ensures.here in
    let was = was_there c.self.inside.places.items c.in-Some.at c.args.number c.index_mut.result.now c.change.new.slot c.self.inside.live c.self.invariant here.0 c.index_mut.ensures.value here.1 in
    rw (← c.self.view_is) (λ value h. (let r = c.change.ensures.«open» value (sym was ∙ h) in (r.0, r.1, r.2, r.3, set_there c.self.inside.places.items c.in-Some.at c.args.number c.index_mut.result.now c.change.new.slot c.self.inside.live c.self.invariant here.0 c.index_mut.ensures.value here.1 _ _ r.4)))

pub returns-in-Some-clause-closed : goal.returns-in-Some-clause-closed
returns-in-Some-clause-closed g c =
    let here = rw c.deref.ensures.value at c.in-Some.ensures.here in
    let was = was_there c.self.inside.places.items c.in-Some.at c.args.number c.index_mut.result.now c.change.new.slot c.self.inside.live c.self.invariant here.0 c.index_mut.ensures.value here.1 in
    rw (← c.self.view_is) (λ h. (let r = c.change.ensures.closed (sym was ∙ h) in (r.0, set_same _ _ _ _ (set_there c.self.inside.places.items c.in-Some.at c.args.number c.index_mut.result.now c.change.new.slot c.self.inside.live c.self.invariant here.0 c.index_mut.ensures.value here.1 _ _ r.1) h)))

pub returns-in-Some-clause-above : goal.returns-in-Some-clause-above
returns-in-Some-clause-above g c =
    let here = rw c.deref.ensures.value at c.in-Some.ensures.here in
    rw (← c.self.view_is) (above_there c.self.inside.places.items c.in-Some.at c.args.number c.index_mut.result.now c.change.new.slot c.self.inside.live c.self.invariant here.0 c.index_mut.ensures.value here.1)

pub returns-in-None-clause-open : goal.returns-in-None-clause-open
returns-in-None-clause-open g c =
    let none = found_nowhere c.self.inside.places.items c.args.number (rw c.deref.ensures.value at c.in-None.ensures.none) in
    rw (← c.self.view_is) (λ value h. absurd (none_some value (sym none ∙ h)))
