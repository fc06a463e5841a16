use Rattle.std.proofs.Common.{◌≡◌, ◌≤◌, List, length, slice_get, sym, ◌∙◌, ap, arith}
use Rattle.pq_core.specs.declared.store.rising.Place.{Place}
use Rattle.pq_core.specs.aux.Accounts.{HasMade}
use Rattle.pq_core.proofs.Lists.{none_some}
use Rattle.pq_core.proofs.AccountMoves.{there_read}
use Rattle.pq_core.proofs.Slots.{found_at, none_more, none_here, none_found}
use Rattle.pq_core.proofs.store.in_accounts.first_made.Goals as goal
use Rattle.pq_core.proofs.store.in_accounts.first_made.Goals.{in-Some+else-has_made, in_default}

pub returns-then-has_made-clause-some : goal.returns-then-has_made-clause-some
returns-then-has_made-clause-some g c =
    let here = there_read c.places-places.result.now c.loop-i.i c.index-places-i.result c.loop-i-test.true c.index-places-i.is in (
      c.in-Some.account,
      found_at c.args.accounts.now.items c.loop-i.i c.index-places-i.result c.places-places.ensures.rises
          (ap (λ (ps : List (Place _)). slice_get ps c.loop-i.i) (sym c.places-places.ensures.now) ∙ here)
          ∙ c.in-Some.is,
      c.has_made.ensures.0 c.if-has_made.true,
    )

pub loop-i-preserved : goal.loop-i-preserved
loop-i-preserved g c =
    let here = ap (λ (ps : List (Place _)). slice_get ps c.loop-i.i) (sym c.places-places.ensures.now)
    ∙ there_read c.places-places.result.now c.loop-i.i c.index-places-i.result c.loop-i-test.true c.index-places-i.is in
    none_more HasMade c.args.accounts.now.items c.loop-i.i c.index-places-i.result here
    (elim c.match-place.branch [
      | in-Some+else-has_made w ↦ none_here HasMade c.index-places-i.result w.in-Some.account w.has_made.result w.in-Some.is w.has_made.ensures.1 w.if-has_made.false
      | in_default w ↦ λ account h. absurd (none_some account (sym w.in_default.is ∙ h))
    ])
    c.loop-i.invariant

pub returns-clause-none : goal.returns-clause-none
returns-clause-none g c =
    none_found HasMade c.args.accounts.now.items
    (λ j p account lt. c.loop-i.invariant j p account
    (let long : length c.places-places.result.now ≡ length c.args.accounts.now.items = ap (λ (ps : List (Place _)). length ps) c.places-places.ensures.now in
    let past : length c.places-places.result.now ≤ c.loop-i.i = c.loop-i-test.false in omega arith))
