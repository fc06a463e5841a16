-- What a seat does with a reply: the reply gets its place in the lane of the client, and the lane puts
-- the next replies, until its outbox refuses one or none is next.
use Rattle.std.specs.Prelude.{ℕ, ◌≡◌, ◌≢◌, ◌⊎◌, zero, suc, Option, Some, None}
use Rattle.pq_core.specs.Replies.{ReplyView}
use Rattle.pq_core.specs.Lanes.{ReadyView, Tray, HasPlace, LetsOutOf, placed_in}
use Rattle.pq_core.specs.declared.values.moves.Released.{Released}
use Rattle.pq_core.specs.declared.values.moves.Released.TheVariants.{Put as ReleasedPut, Full, Gone as ReleasedGone, Nothing as ReleasedNothing}
use Rattle.pq_mail.specs.Mailbox.{Side, HasNoRoom, no_items}
use Rattle.pq_hall.specs.declared.seats.Sent.{Sent}
use Rattle.pq_hall.specs.declared.seats.Sent.TheVariants.{Nothing, Put, Gone}

-- `LaneView K V M` is a lane of a hall
abbrev pub LaneView : (K V M : Type 0) → Type 0
LaneView K V M = Tray K V M (Side (ReplyView K V M))

-- `Filled ready l m` is that `ready`, if it is there, gets its place in the lane `l`, which is `m`
-- afterwards; or that the lane has no place for it
abbrev pub Filled : {K V M : Type 0} → Option (ReadyView K V M) → LaneView K V M → LaneView K V M → Type 0
Filled None l m = m ≡ l
Filled (Some ready) l m = (HasPlace l ready × (m ≡ placed_in l ready)) ⊎ ((HasPlace l ready → ⊥) × (m ≡ l))

-- `LetsOut released l m` is one release of the lane `l`, which is `m` afterwards
abbrev pub LetsOut : {K V M : Type 0} → Released → LaneView K V M → LaneView K V M → Type 0
LetsOut {K} {V} {M} released l m = LetsOutOf (λ (e : Side (ReplyView K V M)). e.items) no_items (λ (e : Side (ReplyView K V M)). HasNoRoom e.items) (λ (e : Side (ReplyView K V M)). Unit {0}) released l m

-- `PutsNext k l m` is that the next `k` replies of the lane `l` were put, one after the other, and that
-- it is `m` afterwards
unfoldable pub PutsNext : {K V M : Type 0} → ℕ → LaneView K V M → LaneView K V M → Type 0
PutsNext zero l m = m ≡ l
PutsNext {K} {V} {M} (suc k) l m = (n : ℕ) × (via : LaneView K V M) × LetsOut (ReleasedPut n) l via × PutsNext k via m

-- `IsLast released` is that a release put nothing
abbrev pub IsLast : Released → Type 0
IsLast (ReleasedPut n) = ⊥
IsLast Full = Unit {0}
IsLast ReleasedGone = Unit {0}
IsLast ReleasedNothing = Unit {0}

-- `Empties last l m` is that the next replies of the lane `l` were put, until a release put nothing and
-- answered `last`, and that the lane is `m` afterwards
pub record Empties {K V M : Type 0} (last : Released) (l m : LaneView K V M) : Type 0 where
  pub count : ℕ
  pub via : LaneView K V M
  pub puts : PutsNext count l via
  pub is_last : IsLast last
  pub ends : LetsOut last via m

-- `SaysPut sent before client after` is that `sent` acknowledges all replies to `client` below `after`, the
-- count of puts, if that is another one than `before`
abbrev pub SaysPut : Sent → ℕ → ℕ → ℕ → Type 0
SaysPut Nothing before client after = after ≡ before
SaysPut (Put seen) before client after = (after ≢ before) × (seen.client ≡ client) × (seen.below ≡ after)
SaysPut Gone before client after = ⊥

-- `Says sent last before client after` is that `sent` says what became of the lane of `client`: that the
-- end that takes is gone, where the release `last` said so, and else what was put
abbrev pub Says : Sent → Released → ℕ → ℕ → ℕ → Type 0
Says sent (ReleasedPut n) before client after = ⊥
Says sent Full before client after = SaysPut sent before client after
Says sent ReleasedGone before client after = sent ≡ Gone
Says sent ReleasedNothing before client after = SaysPut sent before client after

-- `Sends ready sent l m` is that `ready` is filled into the lane `l`, that the lane puts its next replies
-- and is `m` afterwards, and that `sent` says so
pub record Sends {K V M : Type 0} (ready : Option (ReadyView K V M)) (sent : Sent) (l m : LaneView K V M) : Type 0 where
  pub via : LaneView K V M
  pub filled : Filled ready l via
  pub last : Released
  pub empties : Empties last via m
  pub says : Says sent last l.put m.client m.put
