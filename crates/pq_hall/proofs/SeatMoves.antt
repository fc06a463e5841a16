-- What a seat does to its lane, from the calls of the lane that it makes.
use Rattle.std.proofs.Common.{◌≡◌, ℕ, zero, suc, ◌-◌, ◌≤◌, true, slice_get, Some, refl, sym, ◌∙◌, ap, subst, arith}
use Rattle.pq_core.proofs.Lists.{get_within}
use Rattle.pq_core.proofs.Trays.{shifted}
use Rattle.pq_core.specs.Replies.{ReplyView}
use Rattle.pq_core.specs.Moves.{window}
use Rattle.pq_core.specs.Lanes.{HasNext, TrayKept}
use Rattle.pq_core.specs.declared.values.moves.Released.{Released}
use Rattle.pq_core.specs.declared.values.moves.Released.TheVariants.{Put, Full, Gone, Nothing}
use Rattle.pq_mail.specs.Mailbox.{Side}
use Rattle.pq_hall.specs.Sending.{LaneView, LetsOut, IsLast, PutsNext, Empties}
use Rattle.pq_hall.specs.aux.Vacant.{VacantFrom}

module _ {K V M : Type 0} where
  -- a reply was put, and fewer places can be filled
  pub vacant_after : (n left : ℕ) (l via : LaneView K V M) → LetsOut (Put n) l via → VacantFrom left l → VacantFrom (left - 1) via
  vacant_after n left l via (out, first, next, numbered, (o, more, taken, is)) vacant outbox open_yet i ready here le =
      let before = shifted l.places i ready (sym (ap (λ (t : LaneView K V M). slice_get t.places i) is) ∙ here) in
      let there : left ≤ suc i = omega arith in
      vacant out next.open_yet (suc i) ready before there

  -- a lane has as many places as its window
  pub vacant_at_first : (Right : ReplyView K V M → Type 0) (l : LaneView K V M) → TrayKept Right (λ (e : Side (ReplyView K V M)). e.items) l → VacantFrom window l
  vacant_at_first Right l kept outbox open_yet i ready here le =
      let long = kept.room outbox open_yet in
      let within = get_within l.places i (Some ready) here in
      omega arith

  -- a release that puts nothing is the last one
  pub at_last : (last : Released) (l m : LaneView K V M) → IsLast last → LetsOut last l m → Empties last l m
  unfolding PutsNext
  at_last last l m is_last ends = record { count = zero; via = l; puts = refl; is_last = is_last; ends = ends }

  -- no reply is next where no place is filled
  pub none_next : (left : ℕ) (l : LaneView K V M) → left ≡ 0 → VacantFrom left l → Empties Nothing l l
  none_next left l none_left vacant = at_last Nothing l l tt (none, refl)
    where
      none : HasNext l → ⊥
      none (outbox, ready, next) = vacant outbox next.open_yet 0 ready next.next (omega arith)

  -- a reply was put, and then the others
  pub put_then : (n : ℕ) (last : Released) (l via m : LaneView K V M) → LetsOut (Put n) l via → Empties last via m → Empties last l m
  unfolding PutsNext
  put_then n last l via m w e = record { count = suc e.count; via = e.via; puts = (n, via, w, e.puts); is_last = e.is_last; ends = e.ends }

  -- afterwards no reply is next, unless the last release was refused
  pub emptied_rest : (last : Released) (l m : LaneView K V M) → Empties last l m → HasNext m → m.refused ≡ true
  emptied_rest (Put n) l m e next = absurd e.is_last
  emptied_rest Full l m e next = refused m e.via e.ends
    where
      refused : (n via : LaneView K V M) → LetsOut Full via n → n.refused ≡ true
      refused n via (outbox, ready, first, (o, more, taken, full, is)) = ap (λ (t : LaneView K V M). t.refused) is
  emptied_rest Gone l m e next = refused m e.via e.ends
    where
      refused : (n via : LaneView K V M) → LetsOut Gone via n → n.refused ≡ true
      refused n via (outbox, ready, first, (o, more, taken, gone, is)) = ap (λ (t : LaneView K V M). t.refused) is
  emptied_rest Nothing l m e next = none m e.via e.ends next
    where
      none : (n via : LaneView K V M) → LetsOut Nothing via n → HasNext n → n.refused ≡ true
      none n via (nothing, is) there = absurd (nothing (subst (λ (t : LaneView K V M). HasNext t) is there))
