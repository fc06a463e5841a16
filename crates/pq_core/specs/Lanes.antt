-- A lane: the outbox of an open client, and the replies that were filled in and not yet put.
--
-- A reply that was made is collected from the store and filled into the lane of its client, in any
-- order. The lane puts the replies into the outbox in the order of their numbers.
use Rattle.std.specs.Prelude.{ℕ, ◌≡◌, ◌+◌, ◌-◌, ◌<◌, ◌≤◌, ◌^◌, Bool, true, false, List, [], ◌∷◌, ◌++◌, length, drop, replicate, slice_get, slice_set, Option, Some, None, Result, Ok, Err}
use Rattle.std.specs.declared.cmp.Ordering.{Ordering}
use Rattle.pq_rules.specs.Turns.{Machine}
use Rattle.pq_core.specs.Points.{Point}
use Rattle.pq_core.specs.Replies.{ReplyView}
use Rattle.pq_core.specs.Truth.{IsTrueReply}
use Rattle.pq_core.specs.Outboxes.{TakesNext}
use Rattle.pq_core.specs.Moves.{window}
use Rattle.pq_core.specs.declared.values.moves.Released.{Released}
use Rattle.pq_core.specs.declared.values.moves.Released.TheVariants.{Put as ReleasedPut, Full as ReleasedFull, Gone as ReleasedGone, Nothing as ReleasedNothing}

-- `ReadyView K V M` is a reply that was collected, and the revision at the acceptance of its request
pub record ReadyView (K V M : Type 0) : Type 0 where
  pub reply : ReplyView K V M
  pub accepted : ℕ

-- `ReadyKept order machine point ready` is what the type of a collected reply keeps: the reply is
-- right at its stamp, and its number is not the last one
pub record ReadyKept {R K P V M : Type 0} (order : K → K → Ordering) (machine : R → Machine K P V) (point : M → Point) (ready : ReadyView K V M) : Type 0 where
  pub right : IsTrueReply order machine point ready.reply
  pub below : ready.reply.number + 1 < 2 ^ 64

-- `Tray K V M O` is a lane: its client; its outbox, while it is open; the count of the replies put;
-- the places of the next `window` numbers from that count on; whether its last release was refused
pub record Tray (K V M O : Type 0) : Type 0 where
  pub client : ℕ
  pub outbox : Option O
  pub put : ℕ
  pub places : List (Option (ReadyView K V M))
  pub refused : Bool

-- `empty_tray c outbox` is the lane of the client `c` before its first reply
abbrev pub empty_tray : {K V M O : Type 0} → ℕ → O → Tray K V M O
empty_tray c outbox = record { client = c; outbox = Some outbox; put = 0; places = replicate window None; refused = false }

-- `HasPlace tray ready` is that `tray` takes `ready`: it is open, `ready` is of its client, its
-- number was not put, and the place of that number is there and vacant
pub record HasPlace {K V M O : Type 0} (tray : Tray K V M O) (ready : ReadyView K V M) : Type 0 where
  pub outbox : O
  pub open_yet : tray.outbox ≡ Some outbox
  pub client : ready.reply.client ≡ tray.client
  pub past : tray.put ≤ ready.reply.number
  pub vacant : slice_get tray.places (ready.reply.number - tray.put) ≡ Some None

-- `placed_in tray ready` is `tray` with `ready` at the place of its number
abbrev pub placed_in : {K V M O : Type 0} → Tray K V M O → ReadyView K V M → Tray K V M O
placed_in tray ready = record { client = tray.client; outbox = tray.outbox; put = tray.put; places = slice_set tray.places (ready.reply.number - tray.put) (Some ready); refused = tray.refused }

-- `Fills ready answer l m` is that `ready` gets its place in the lane `l`, which is `m` afterwards;
-- or that `ready` comes back, since the lane does not take it
abbrev pub Fills : {A K V M O : Type 0} → ReadyView K V M → Result A (ReadyView K V M) → Tray K V M O → Tray K V M O → Type 0
Fills ready (Ok done) l m = HasPlace l ready × (m ≡ placed_in l ready)
Fills ready (Err back) l m = (back ≡ ready) × (HasPlace l ready → ⊥) × (m ≡ l)

-- `IsNextIn tray outbox ready` is that `ready` is the next reply of the lane, which is open with
-- `outbox`
pub record IsNextIn {K V M O : Type 0} (tray : Tray K V M O) (outbox : O) (ready : ReadyView K V M) : Type 0 where
  pub open_yet : tray.outbox ≡ Some outbox
  pub next : slice_get tray.places 0 ≡ Some (Some ready)

-- `HasNext tray` is that `tray` is open and its next reply is there
abbrev pub HasNext : {K V M O : Type 0} → Tray K V M O → Type 0
HasNext {K} {V} {M} {O} tray = (outbox : O) × (ready : ReadyView K V M) × IsNextIn tray outbox ready

-- `after_next places` is the places after the next reply was put
abbrev pub after_next : {A : Type 0} → List (Option A) → List (Option A)
after_next places = drop 1 places ++ None ∷ []

-- `tray_with tray outbox refused` is `tray` with `outbox`, whose last release was refused or not
abbrev pub tray_with : {K V M O : Type 0} → Tray K V M O → O → Bool → Tray K V M O
tray_with tray outbox refused = record { client = tray.client; outbox = Some outbox; put = tray.put; places = tray.places; refused = refused }

-- `tray_after tray outbox` is `tray` with `outbox`, after its next reply was put
abbrev pub tray_after : {K V M O : Type 0} → Tray K V M O → O → Tray K V M O
tray_after tray outbox = record { client = tray.client; outbox = Some outbox; put = tray.put + 1; places = after_next tray.places; refused = false }

-- `LetsOutOf puts takes was_full was_gone answer l m` is that the next reply enters the outbox of the
-- lane `l`, which is `m` afterwards; or that the outbox refuses it; or that no reply is next
abbrev pub LetsOutOf : {K V M O : Type 0} → (puts takes : O → List (ReplyView K V M)) → (was_full was_gone : O → Type 0) → Released → Tray K V M O → Tray K V M O → Type 0
LetsOutOf {K} {V} {M} {O} puts takes was_full was_gone (ReleasedPut n) l m =
    (outbox : O) × (ready : ReadyView K V M) × IsNextIn l outbox ready × (n ≡ l.put)
    × ((o : O) × (puts o ≡ puts outbox ++ ready.reply ∷ []) × (takes o ≡ takes outbox) × (m ≡ tray_after l o))
LetsOutOf {K} {V} {M} {O} puts takes was_full was_gone ReleasedFull l m =
    (outbox : O) × (ready : ReadyView K V M) × IsNextIn l outbox ready
    × ((o : O) × (puts o ≡ puts outbox) × (takes o ≡ takes outbox) × was_full o × (m ≡ tray_with l o true))
LetsOutOf {K} {V} {M} {O} puts takes was_full was_gone ReleasedGone l m =
    (outbox : O) × (ready : ReadyView K V M) × IsNextIn l outbox ready
    × ((o : O) × (puts o ≡ puts outbox) × (takes o ≡ takes outbox) × was_gone o × (m ≡ tray_with l o true))
LetsOutOf puts takes was_full was_gone ReleasedNothing l m = (HasNext l → ⊥) × (m ≡ l)

-- `TakesOutOf puts takes answer l m` is that the first reply that was put and not taken is taken out
-- of the outbox of the lane `l`, which is `m` afterwards; or that there is none, or the lane is
-- closed; or that an allocation failed
abbrev pub TakesOutOf : {A K V M O : Type 0} → (puts takes : O → List (ReplyView K V M)) → Result Bool A → Tray K V M O → Tray K V M O → Type 0
TakesOutOf {A} {K} {V} {M} {O} puts takes (Ok true) l m =
    (outbox : O) × (l.outbox ≡ Some outbox)
    × ((o : O) × (puts o ≡ puts outbox) × TakesNext (puts outbox) (takes outbox) (takes o) × (m ≡ tray_with l o l.refused))
TakesOutOf {A} {K} {V} {M} {O} puts takes (Ok false) l m =
    ((outbox : O) → l.outbox ≡ Some outbox → length (puts outbox) ≡ length (takes outbox)) × (m ≡ l)
TakesOutOf puts takes (Err failure) l m = m ≡ l

-- `closed_tray tray` is `tray` after its close: it has neither outbox nor places
abbrev pub closed_tray : {K V M O : Type 0} → Tray K V M O → Tray K V M O
closed_tray tray = record { client = tray.client; outbox = None; put = tray.put; places = []; refused = tray.refused }

-- `ClosesLane answer l m` is that the lane `l` is closed, and is `m` afterwards: its outbox comes
-- back, the first time
abbrev pub ClosesLane : {K V M O : Type 0} → Option O → Tray K V M O → Tray K V M O → Type 0
ClosesLane (Some outbox) l m = (l.outbox ≡ Some outbox) × (m ≡ closed_tray l)
ClosesLane None l m = (l.outbox ≡ None) × (m ≡ l)

-- `TrayKept Right puts tray` is what each value of a lane's lock keeps, where `Right` says that a
-- reply is right at its stamp: the replies put are of its client, numbered from 0 on in order, and
-- right; so is each reply that has a place, at its number
pub record TrayKept {K V M O : Type 0} (Right : ReplyView K V M → Type 0) (puts : O → List (ReplyView K V M)) (tray : Tray K V M O) : Type 0 where
  pub count : (outbox : O) → tray.outbox ≡ Some outbox → tray.put ≡ length (puts outbox)
  pub room : (outbox : O) → tray.outbox ≡ Some outbox → length tray.places ≡ window
  pub put_so : (outbox : O) (n : ℕ) (reply : ReplyView K V M) → tray.outbox ≡ Some outbox → slice_get (puts outbox) n ≡ Some reply
      → (reply.number ≡ n) × (reply.client ≡ tray.client) × Right reply
  pub placed : (i : ℕ) (ready : ReadyView K V M) → slice_get tray.places i ≡ Some (Some ready)
      → (ready.reply.number ≡ tray.put + i) × (ready.reply.client ≡ tray.client) × Right ready.reply
