use Rattle.std.proofs.Common.{refl}
use Rattle.pq_core.proofs.Lists.{get_within}
use Rattle.pq_core.proofs.Trays.{fill_kept}
use Rattle.pq_core.proofs.lanes.lane.Lane.fill.Goals as goal

pub index_mut-requires : goal.index_mut-requires
index_mut-requires g c =
    let h = rw (← c.self.view_is) at ((c.if-not-has_place.ensures {u = tt}).0 refl) in
    let within = get_within _ _ _ h.vacant in
    let ok = c.self.inside.places.ok.0 in
    rw (c.number-2.ensures, c.number.ensures, ok) within

pub invariant_of-self : goal.invariant_of-self
invariant_of-self g c =
    let h = rw (← c.self.view_is) at ((c.if-not-has_place.ensures {u = tt}).0 refl) in
    rw (c.put_in.ensures, c.number-2.ensures, c.number.ensures) (fill_kept _ _ _ _ c.self.invariant h c.ready_is_right.ensures.right)

pub returns : goal.returns
returns g c =
    let h = rw (← c.self.view_is) at ((c.if-not-has_place.ensures {u = tt}).0 refl) in
    rw (← c.self.view_is) (h, rw (c.put_in.ensures, c.number-2.ensures, c.number.ensures) refl)
