-- Auxiliary: what is kept of each client while events are played. The outbox of an open client is
-- in the core, that of a closed one is kept.
use Rattle.std.specs.Prelude.{ℕ, ◌≡◌, ◌≤◌, true, false, List, [], ◌∷◌, ◌++◌, length, slice_get, slice_set, Option, Some, None}
use Rattle.pq_core.specs.Points.{Point}
use Rattle.pq_core.specs.Replies.{ReplyView}
use Rattle.pq_core.specs.Outboxes.{Listed, taken_front, TakesNext}
use Rattle.pq_core.specs.Ledger.{Client}
use Rattle.pq_core.specs.declared.values.request.Request.{Request}
use Rattle.pq_play.specs.Results.{accepted_of}

-- `SeatView K V` is the requests that were accepted from a client, and the outbox that came back at
-- its close
pub record SeatView (K V : Type 0) : Type 0 where
  pub accepted : List (Request K)
  pub left : Option (Listed K V Point)

-- `free_seat` is the seat of a client that was just opened
abbrev pub free_seat : {K V : Type 0} → SeatView K V
free_seat = record { accepted = []; left = None }

-- `with_request seat request` is `seat` with one more request
abbrev pub with_request : {K V : Type 0} → SeatView K V → Request K → SeatView K V
with_request seat request = record { accepted = seat.accepted ++ request ∷ []; left = seat.left }

-- `with_left seat o` is `seat` with the outbox `o` that came back
abbrev pub with_left : {K V : Type 0} → SeatView K V → Listed K V Point → SeatView K V
with_left seat o = record { accepted = seat.accepted; left = Some o }

-- `left_taken left` is what was taken out of the outbox that came back
abbrev pub left_taken : {K V : Type 0} → Option (Listed K V Point) → List (ReplyView K V Point)
left_taken None = []
left_taken (Some o) = taken_front o

-- `seat_taken seat` is what was taken out of the outbox that is kept
abbrev pub seat_taken : {K V : Type 0} → SeatView K V → List (ReplyView K V Point)
seat_taken seat = left_taken seat.left

-- `seat_accepted seat` is the requests of the seat
abbrev pub seat_accepted : {K V : Type 0} → SeatView K V → List (Request K)
seat_accepted seat = seat.accepted

-- `Seated client taken seat` is that `seat` has the requests of `client` and, if it is closed, its
-- outbox, and that `taken` was taken out of its outbox
pub record Seated {K V : Type 0} (client : Client K V Point (Listed K V Point)) (taken : List (ReplyView K V Point)) (seat : SeatView K V) : Type 0 where
  pub accepted_so : seat.accepted ≡ accepted_of client
  pub open_so : client.is_open ≡ true → (seat.left ≡ None) × (taken ≡ taken_front client.outbox)
  pub shut_so : client.is_open ≡ false → (o : Listed K V Point) × (seat.left ≡ Some o) × (taken ≡ taken_front o) × (o.replies ≡ client.outbox.replies)

-- `Aligned clients taken seats` is that each client has its seat
pub record Aligned {K V : Type 0} (clients : List (Client K V Point (Listed K V Point))) (taken : List (List (ReplyView K V Point))) (seats : List (SeatView K V)) : Type 0 where
  pub counted : length taken ≡ length clients
  pub places : length seats ≡ length clients
  pub each : (c : ℕ) (client : Client K V Point (Listed K V Point)) (tk : List (ReplyView K V Point)) (seat : SeatView K V) → slice_get clients c ≡ Some client
      → slice_get taken c ≡ Some tk → slice_get seats c ≡ Some seat → Seated client tk seat

-- `SetsSeat before after_it c change` is that `change` was made to the seat of the client `c`
pub record SetsSeat {K V : Type 0} (before after_it : List (SeatView K V)) (c : ℕ) (change : SeatView K V → SeatView K V) : Type 0 where
  pub seat : SeatView K V
  pub here : slice_get before c ≡ Some seat
  pub set_so : after_it ≡ slice_set before c (change seat)

-- `SeatTakes seat other` is that the next reply was taken out of the outbox that is kept
pub record SeatTakes {K V : Type 0} (seat other : SeatView K V) : Type 0 where
  pub old : Listed K V Point
  pub next : Listed K V Point
  pub left_here : seat.left ≡ Some old
  pub same : next.replies ≡ old.replies
  pub takes : TakesNext old.replies (taken_front old) (taken_front next)
  pub after_it : other ≡ with_left seat next

-- `SeatLeaves seat other` is that no outbox is kept, or that all of its replies were taken
pub record SeatLeaves {K V : Type 0} (seat other : SeatView K V) : Type 0 where
  pub none : (old : Listed K V Point) → seat.left ≡ Some old → length old.replies ≤ length (taken_front old)
  pub same : other ≡ seat

-- `TakesLeft before after_it c` is that of the outbox that the closed client `c` left the next
-- reply was taken
pub record TakesLeft {K V : Type 0} (before after_it : List (SeatView K V)) (c : ℕ) : Type 0 where
  pub seat : SeatView K V
  pub other : SeatView K V
  pub here : slice_get before c ≡ Some seat
  pub takes : SeatTakes seat other
  pub set_so : after_it ≡ slice_set before c other

-- `LeavesNone before after_it c` is that no outbox of `c` is kept, or that all of its replies were
-- taken
pub record LeavesNone {K V : Type 0} (before after_it : List (SeatView K V)) (c : ℕ) : Type 0 where
  pub none : (seat : SeatView K V) (old : Listed K V Point) → slice_get before c ≡ Some seat → seat.left ≡ Some old → length old.replies ≤ length (taken_front old)
  pub same : after_it ≡ before
