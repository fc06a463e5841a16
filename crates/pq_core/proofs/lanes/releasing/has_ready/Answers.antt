use Rattle.std.proofs.Common.{◌≡◌, ◌≤◌, List, length, slice_get, refl, sym, ◌∙◌, ap, arith}
use Rattle.pq_core.specs.declared.store.rising.Place.{Place}
use Rattle.pq_core.specs.Lanes.{HasNext}
use Rattle.pq_core.specs.aux.Resting.{LetsNext}
use Rattle.pq_core.proofs.Lists.{none_some}
use Rattle.pq_core.proofs.CoreResting.{lane_found, refused_first}
use Rattle.pq_core.proofs.AccountMoves.{there_read}
use Rattle.pq_core.proofs.Slots.{none_more, none_here, none_found}
use Rattle.pq_core.proofs.lanes.releasing.has_ready.Goals as goal
use Rattle.pq_core.proofs.lanes.releasing.has_ready.Goals.{in-Some+else-is_ready, else-is_ready-via-then-is_ready+else-not-is_refused, else-is_ready-via-else-is_ready, in_default}

pub returns-then-not-is_refused : goal.returns-then-not-is_refused
returns-then-not-is_refused g c =
    let x = (c.if-is_ready.ensures {u = tt}).0 refl in
    let here = ap (λ (ps : List (Place _)). slice_get ps c.loop-i.i) (sym c.places-places.ensures.now)
    ∙ there_read c.places-places.result.now c.loop-i.i c.index-places-i.result c.loop-i-test.true c.index-places-i.is in (
      λ t. lane_found c.args.lanes.now c.loop-i.i c.index-places-i.result c.in-Some.lane c.places-places.ensures.rises here (ap (λ (p : Place _). p.value) c.index-places-i.is ∙ c.in-Some.is) x
          (sym c.is_refused.ensures ∙ c.if-not-is_refused.true),
      λ w. refl,
    )

pub loop-i-preserved : goal.loop-i-preserved
loop-i-preserved g c =
    let here = ap (λ (ps : List (Place _)). slice_get ps c.loop-i.i) (sym c.places-places.ensures.now)
    ∙ there_read c.places-places.result.now c.loop-i.i c.index-places-i.result c.loop-i-test.true c.index-places-i.is in
    elim c.match-places-i.branch [
      | in-Some+else-is_ready w ↦ elim w.else-is_ready.branch [
        | else-is_ready-via-then-is_ready+else-not-is_refused v ↦
            none_more LetsNext c.args.lanes.now.items c.loop-i.i c.index-places-i.result here
            (refused_first c.index-places-i.result w.in-Some.lane v.is_refused.result (ap (λ (p : Place _). p.value) c.index-places-i.is ∙ w.in-Some.is) v.is_refused.ensures v.if-not-is_refused.false) c.loop-i.invariant
        | else-is_ready-via-else-is_ready v ↦
            none_more LetsNext c.args.lanes.now.items c.loop-i.i c.index-places-i.result here
            (λ lane h next. none_here HasNext c.index-places-i.result w.in-Some.lane w.is_ready.result (ap (λ (p : Place _). p.value) c.index-places-i.is ∙ w.in-Some.is) w.is_ready.ensures.1 v.if-is_ready.false lane h next.0) c.loop-i.invariant
      ]
      | in_default w ↦
          none_more LetsNext c.args.lanes.now.items c.loop-i.i c.index-places-i.result here
          (λ lane h. absurd (none_some lane (sym (ap (λ (p : Place _). p.value) c.index-places-i.is ∙ w.in_default.is) ∙ h))) c.loop-i.invariant
    ]

pub returns : goal.returns
returns g c = (
  λ t. absurd (cc),
  λ w. absurd (none_found LetsNext c.args.lanes.now.items
      (λ j p lane lt h. c.loop-i.invariant j p lane
      (let long : length c.places-places.result.now ≡ length c.args.lanes.now.items = ap (λ (ps : List (Place _)). length ps) c.places-places.ensures.now in
      let past : length c.places-places.result.now ≤ c.loop-i.i = c.loop-i-test.false in omega arith) h)
      w.client w.tray w.here (w.next, w.not_refused)),
)
