-- Auxiliary: how far a list of events was played.
use Rattle.std.specs.Prelude.{ℕ, ◌≡◌, ◌<◌, List, Option, Some, false, map, slice_get}
use Rattle.std.specs.declared.cmp.Ordering.{Ordering}
use Rattle.pq_rules.specs.Turns.{Machine}
use Rattle.pq_core.specs.Points.{Point}
use Rattle.pq_core.specs.Works.{DoneView}
use Rattle.pq_core.specs.Outboxes.{Listed}
use Rattle.pq_core.specs.Ledger.{Ledger, Client}
use Rattle.pq_core.specs.RightReply.{answer_by}
use Rattle.pq_core.specs.Kept.{Kept}
use Rattle.pq_play.specs.World.{World, replies_of, own_point}
use Rattle.pq_play.specs.Steps.{Steps, LeadsTo}
use Rattle.pq_play.specs.Results.{accepted_of}
use Rattle.pq_play.specs.aux.Seats.{SeatView, Aligned, seat_accepted, seat_taken}
use Rattle.pq_play.specs.aux.Running.{RunsKept, OutOf}
use Rattle.pq_play.specs.declared.event.Event.{Event}

-- `Fits rules w seats dones` is that what is kept is that of the world `w`
pub record Fits {R K P V : Type 0} (rules : R) (w : World K V) (seats : List (SeatView K V)) (dones : ℕ → Option (DoneView R K P V)) : Type 0 where
  pub aligned : Aligned w.ledger.clients w.taken seats
  pub runs : RunsKept w.ledger
  pub outs : (r : ℕ) → OutOf rules w.ledger r (dones r)

-- `Stood order machine rules own Stands w seats dones` is that the ledger of `w` is one of the core
-- that has the rule set `own`, and that it was reached
pub record Stood {R K P V : Type 0} (order : K → K → Ordering) (machine : Machine K P V) (rules own : R) (Stands : Ledger K V Point (Listed K V Point) → Type 0) (w : World K V) (seats : List (SeatView K V)) (dones : ℕ → Option (DoneView R K P V)) : Type 0 where
  pub own_same : own ≡ rules
  pub stands : Stands w.ledger
  pub kept : Kept (answer_by order machine own_point) replies_of w.ledger
  pub fits : Fits rules w seats dones

-- `Carried room order machine rules event w own Stands seats dones` is that `event` was carried out in
-- `w`
pub record Carried {R K P V : Type 0} (room : ℕ) (order : K → K → Ordering) (machine : Machine K P V) (rules : R) (event : Event K) (w : World K V) (own : R) (Stands : Ledger K V Point (Listed K V Point) → Type 0) (seats : List (SeatView K V)) (dones : ℕ → Option (DoneView R K P V)) : Type 0 where
  pub v : World K V
  pub own_same : own ≡ rules
  pub stands : Stands v.ledger
  pub steps : Steps room order machine rules event w v
  pub fits : Fits rules v seats dones

-- `Carries room order machine rules event own Stands seats dones after_own After after_seats
-- after_dones` is that `event` is carried out in each world of the core
abbrev pub Carries : {R K P V : Type 0} → ℕ → (K → K → Ordering) → Machine K P V → R → Event K → R → (Ledger K V Point (Listed K V Point) → Type 0) → List (SeatView K V) → (ℕ → Option (DoneView R K P V)) → R → (Ledger K V Point (Listed K V Point) → Type 0) → List (SeatView K V) → (ℕ → Option (DoneView R K P V)) → Type 0
Carries {R} {K} {P} {V} room order machine rules event own Stands seats dones after_own After after_seats after_dones =
    (w : World K V) → Stood order machine rules own Stands w seats dones → Carried room order machine rules event w after_own After after_seats after_dones

-- `Playing room order machine rules events rest start own Stands seats dones` is that `events` led from
-- `start` to a world of the core; `rest` leads on from there
pub record Playing {R K P V : Type 0} (room : ℕ) (order : K → K → Ordering) (machine : Machine K P V) (rules : R) (events rest : List (Event K)) (start : World K V) (own : R) (Stands : Ledger K V Point (Listed K V Point) → Type 0) (seats : List (SeatView K V)) (dones : ℕ → Option (DoneView R K P V)) : Type 0 where
  pub w : World K V
  pub stood : Stood order machine rules own Stands w seats dones
  pub goes_on : (v : World K V) → LeadsTo room order machine rules rest w v → LeadsTo room order machine rules events start v

-- `Led room order machine rules events w own Stands seats dones` is that `events` lead from `w` to a
-- world of the core
pub record Led {R K P V : Type 0} (room : ℕ) (order : K → K → Ordering) (machine : Machine K P V) (rules : R) (events : List (Event K)) (w : World K V) (own : R) (Stands : Ledger K V Point (Listed K V Point) → Type 0) (seats : List (SeatView K V)) (dones : ℕ → Option (DoneView R K P V)) : Type 0 where
  pub v : World K V
  pub led : LeadsTo room order machine rules events w v
  pub stood : Stood order machine rules own Stands v seats dones

-- `GathersAll w seats` is that the seats have the requests of the clients of `w`, and outboxes out
-- of which they have taken what they have taken in `w`
pub record GathersAll {K V : Type 0} (w : World K V) (seats : List (SeatView K V)) : Type 0 where
  pub accepted_same : map seat_accepted seats ≡ map accepted_of w.ledger.clients
  pub taken_same : map seat_taken seats ≡ w.taken

-- `Closing order machine rules w own Stands seats dones n` is that the first `n` clients of `w`
-- were closed, and that else its requests and what was taken are the same
pub record Closing {R K P V : Type 0} (order : K → K → Ordering) (machine : Machine K P V) (rules : R) (w : World K V) (own : R) (Stands : Ledger K V Point (Listed K V Point) → Type 0) (seats : List (SeatView K V)) (dones : ℕ → Option (DoneView R K P V)) (n : ℕ) : Type 0 where
  pub v : World K V
  pub stood : Stood order machine rules own Stands v seats dones
  pub taken_same : v.taken ≡ w.taken
  pub accepted_same : map accepted_of v.ledger.clients ≡ map accepted_of w.ledger.clients
  pub shut : (c : ℕ) (client : Client K V Point (Listed K V Point)) → c < n → slice_get v.ledger.clients c ≡ Some client → client.is_open ≡ false
