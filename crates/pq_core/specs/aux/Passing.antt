-- Auxiliary: replies that are made are passed on from a store to the lanes of their clients.
--
-- While replies are passed on, each reply that is ready is in its lane or made in the store, and
-- none is in both. So once none is made, each is in its lane.
use Rattle.std.specs.Prelude.{ℕ, zero, suc, ◌≡◌, ◌+◌, ◌<◌, ◌≤◌, true, false, List, length, slice_get, Option, Some, None}
use Rattle.std.specs.declared.cmp.Ordering.{Ordering}
use Rattle.pq_rules.specs.Turns.{Machine}
use Rattle.pq_core.specs.Points.{Point}
use Rattle.pq_core.specs.Replies.{ReplyView}
use Rattle.pq_core.specs.Ledger.{Entry, Client, Ledger}
use Rattle.pq_core.specs.Moves.{window}
use Rattle.pq_core.specs.Lanes.{ReadyView, Tray, HasPlace, placed_in}
use Rattle.pq_core.specs.Accounts.{AccountView}
use Rattle.pq_core.specs.Told.{Told, told_ledger, IsReadyAt, NoneReadyAt}
use Rattle.pq_core.specs.Stores.{StoreView, StandsFor, IsMadeIn}
use Rattle.pq_core.specs.Starts.{Log, IsCountedIn}
use Rattle.pq_core.specs.declared.store.rising.Place.{Place}
use Rattle.pq_core.specs.aux.Rising.{Slots, found, IsAbove}
use Rattle.pq_core.specs.aux.Changes.{IsSetAt}
use Rattle.pq_core.specs.aux.Accounts.{made_count}

-- `FillsIn c ready before after` is that `ready` gets its place in the lane of the client `c`, if
-- the lane takes it
abbrev pub FillsIn : {K V M O : Type 0} → ℕ → ReadyView K V M → Slots (Tray K V M O) → Slots (Tray K V M O) → Type 0
FillsIn {K} {V} {M} {O} c ready before after =
    (tray : Tray K V M O) → found before.items c ≡ Some tray → HasPlace tray ready → IsSetAt before after c (Some (placed_in tray ready))

-- `LaneAwaits puts store l c client tray` is that `tray` is the lane of the open `client`, the
-- client `c` of `l`: each reply of it that is ready is in its place, or is made in `store`, and
-- not both
pub record LaneAwaits {R K P V M O : Type 0} (puts : O → List (ReplyView K V M)) (store : StoreView R K P V M) (l : Ledger K V M O) (c : ℕ) (client : Client K V M O) (tray : Tray K V M O) : Type 0 where
  pub owner : tray.client ≡ c
  pub outbox : tray.outbox ≡ Some client.outbox
  pub refused : tray.refused ≡ client.refused
  pub put : tray.put ≡ length (puts client.outbox)
  pub room : length tray.places ≡ window
  pub few : length client.entries ≤ tray.put + window
  pub filled : (i : ℕ) (ready : ReadyView K V M) → slice_get tray.places i ≡ Some (Some ready)
      → (entry : Entry K V M) × IsReadyAt l c (tray.put + i) entry ready.reply × (ready.accepted ≡ entry.accepted)
  pub vacant : (i : ℕ) → slice_get tray.places i ≡ Some None → ((ready : ReadyView K V M) → IsMadeIn store c (tray.put + i) ready → ⊥) → NoneReadyAt l c (tray.put + i)
  pub apart : (i : ℕ) (ready other : ReadyView K V M) → slice_get tray.places i ≡ Some (Some ready) → IsMadeIn store c (tray.put + i) other → ⊥

-- `LanesAwait puts store lanes l` is that each open client of `l`, and no other, has its lane in
-- `lanes`, and that its replies that are ready are there or made in `store`
pub record LanesAwait {R K P V M O : Type 0} (puts : O → List (ReplyView K V M)) (store : StoreView R K P V M) (lanes : List (Place (Tray K V M O))) (l : Ledger K V M O) : Type 0 where
  pub within : (c : ℕ) (tray : Tray K V M O) → found lanes c ≡ Some tray → c < length l.clients
  pub open_yet : (c : ℕ) (client : Client K V M O) → slice_get l.clients c ≡ Some client → client.is_open ≡ true
      → (tray : Tray K V M O) × (found lanes c ≡ Some tray) × LaneAwaits puts store l c client tray
  pub shut : (c : ℕ) (client : Client K V M O) → slice_get l.clients c ≡ Some client → client.is_open ≡ false → found lanes c ≡ None

-- `PassesOn order m point puts before after old new` is that replies are passed on from the store
-- `before` to the lanes `old`, which are `after` and `new` afterwards: the store stands for the
-- same ledgers, and each reply that was ready is in its lane or made still
pub record PassesOn {R K P V M O : Type 0} (order : K → K → Ordering) (m : Machine K P V) (point : M → Point) (puts : O → List (ReplyView K V M))
    (before after : StoreView R K P V M) (old new : Slots (Tray K V M O)) : Type 0 where
  pub rules : after.rules ≡ before.rules
  pub inputs : after.inputs ≡ before.inputs
  pub places : after.places ≡ before.places
  pub claims : after.claims ≡ before.claims
  pub stands : (t : Ledger K V M (Told K V M)) → StandsFor order m point before t → StandsFor order m point after t
  pub counted : (log : Log K) → IsCountedIn order m before log → IsCountedIn order m after log
  pub awaits : (l : Ledger K V M O) → StandsFor order m point before (told_ledger puts l) → LanesAwait puts before old.items l
      → LanesAwait puts after new.items l × ((b : ℕ) → IsAbove b old.items → IsAbove b new.items)

-- ---- how many replies are made

-- `made_of seat` is the number of the replies of an account that are made and not collected, if
-- there is an account
abbrev pub made_of : {K V M : Type 0} → Option (AccountView K V M) → ℕ
made_of None = 0
made_of (Some account) = made_count account.stages

-- `made_below items n` is the number of the replies to the clients below `n` that are made and not
-- collected
unfoldable pub made_below : {K V M : Type 0} → List (Place (AccountView K V M)) → ℕ → ℕ
made_below items zero = 0
made_below items (suc n) = made_of (found items n) + made_below items n

-- `made_in store` is the number of the replies in `store` that are made and not collected
abbrev pub made_in : {R K P V M : Type 0} → StoreView R K P V M → ℕ
made_in store = made_below store.accounts.items store.clients
