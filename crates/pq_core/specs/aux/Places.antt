-- Auxiliary: each reply that is ready is in the lane of its client.
use Rattle.std.specs.Prelude.{ℕ, ◌≡◌, ◌+◌, ◌<◌, ◌≤◌, true, false, List, length, slice_get, Some, None}
use Rattle.pq_core.specs.Replies.{ReplyView}
use Rattle.pq_core.specs.Ledger.{Entry, Client, Ledger}
use Rattle.pq_core.specs.Moves.{window}
use Rattle.pq_core.specs.Lanes.{ReadyView, Tray}
use Rattle.pq_core.specs.Told.{IsReadyAt, NoneReadyAt}
use Rattle.pq_core.specs.declared.store.rising.Place.{Place}
use Rattle.pq_core.specs.aux.Rising.{found}

-- `LaneStands puts l c client tray` is that `tray` is the lane of the open `client`, the client `c` of
-- `l`: each reply of it that is ready is in its place
pub record LaneStands {K V M O : Type 0} (puts : O → List (ReplyView K V M)) (l : Ledger K V M O) (c : ℕ) (client : Client K V M O) (tray : Tray K V M O) : Type 0 where
  pub owner : tray.client ≡ c
  pub outbox : tray.outbox ≡ Some client.outbox
  pub refused : tray.refused ≡ client.refused
  pub put : tray.put ≡ length (puts client.outbox)
  pub room : length tray.places ≡ window
  pub few : length client.entries ≤ tray.put + window
  pub filled : (i : ℕ) (ready : ReadyView K V M) → slice_get tray.places i ≡ Some (Some ready)
      → (entry : Entry K V M) × IsReadyAt l c (tray.put + i) entry ready.reply × (ready.accepted ≡ entry.accepted)
  pub vacant : (i : ℕ) → slice_get tray.places i ≡ Some None → NoneReadyAt l c (tray.put + i)

-- `LanesStand puts lanes l` is that each open client of `l`, and no other, has its lane in `lanes`
pub record LanesStand {K V M O : Type 0} (puts : O → List (ReplyView K V M)) (lanes : List (Place (Tray K V M O))) (l : Ledger K V M O) : Type 0 where
  pub within : (c : ℕ) (tray : Tray K V M O) → found lanes c ≡ Some tray → c < length l.clients
  pub open_yet : (c : ℕ) (client : Client K V M O) → slice_get l.clients c ≡ Some client → client.is_open ≡ true
      → (tray : Tray K V M O) × (found lanes c ≡ Some tray) × LaneStands puts l c client tray
  pub shut : (c : ℕ) (client : Client K V M O) → slice_get l.clients c ≡ Some client → client.is_open ≡ false → found lanes c ≡ None
