use Rattle.std.proofs.Common.{◌≡◌, ◌∙◌, ℕ, Some, slice_get, slice_set, subst}
use Rattle.std.proofs.lemmas.Option.{slice_get_read}
use Rattle.std.proofs.lemmas.Result.{IfOk-weaker}
use Rattle.pq_play.specs.aux.Seats.{LeavesNone}
use Rattle.pq_play.proofs.Carrying.{left_none}
use Rattle.pq_play.proofs.seat.take_left.Goals as goal

pub returns-clause-none : goal.returns-clause-none
returns-clause-none g c =
    let seats = c.args.seats.now.items in
    let place = c.number-place.result in
    let there : slice_get seats place ≡ Some c.index_mut.result.now =
    slice_get_read seats c.len.result place c.index_mut.result.now (c.len.ensures ∙ c.args.seats.now.ok.0) c.if-place-len.false c.index_mut.ensures.value in
    IfOk-weaker c.take_kept.result _ _ (λ b h e.
    subst (λ (i : ℕ). LeavesNone seats (slice_set seats place c.take_kept.new.seat) i) c.number-place.ensures (left_none seats place c.index_mut.result.now c.take_kept.new.seat there (h e))) c.take_kept.ensures.none
