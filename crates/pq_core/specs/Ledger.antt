-- The ledger: the sources at each revision, and of each client its requests from their acceptance
-- on, each in one place. (Ordering of responses and cancellation: LSP 3.17, "Request, Notification
-- and Response Ordering", "Cancellation Support".)
--
-- The ledger is the world that the server theorem speaks of: of each client it says whether it is
-- open, which requests were accepted at which revision, and which replies were put. Each accepted
-- request has one place, so it is never in two.
use Rattle.std.specs.Prelude.{ℕ, ◌≡◌, Bool, true, false, List, [], map, slice_get, slice_set, Option, Some}
use Rattle.pq_inputs.specs.Sources.{Table}
use Rattle.pq_core.specs.Replies.{ReplyView}
use Rattle.pq_core.specs.declared.values.request.Request.{Request}

-- `Out K` is work of a run that was handed out: its key, and the number of reads of its rule before
pub record Out (K : Type 0) : Type 0 where
  pub key : K
  pub reads : ℕ

-- `Place K V M` is where an accepted request is
pub data Place (K V M : Type 0) : Type 0 where
  Waiting : Place K V M
  -- in this run, which was started at this revision, and whose work is out or not
  Running : (run started : ℕ) (out : Option (Out K)) → Place K V M
  -- its reply is made, and not yet put
  Ready : (reply : ReplyView K V M) → Place K V M
  Put : Place K V M
  -- its client was closed before its reply was put
  Dropped : Place K V M

-- `Fate` is what befell a request beside its run: nothing; or an allocation failed and it was starved;
-- or its client withdrew it
pub data Fate : Type 0 where
  Unharmed : Fate
  WasStarved : Fate
  WasWithdrawn : Fate

-- `Entry K V M` is an accepted request: the revision at its acceptance, where it is, and whether it
-- was starved or withdrawn
pub record Entry (K V M : Type 0) : Type 0 where
  pub request : Request K
  pub accepted : ℕ
  pub place : Place K V M
  pub fate : Fate

-- `Client K V M O` is a client: its requests by their numbers; its outbox, as it is, or as it was at
-- the close; whether its last release was refused
pub record Client (K V M O : Type 0) : Type 0 where
  pub entries : List (Entry K V M)
  pub outbox : O
  pub is_open : Bool
  pub refused : Bool

-- `Ledger K V M O` is the inputs, the clients by their numbers, and the count of the runs started
pub record Ledger (K V M O : Type 0) : Type 0 where
  pub inputs : Table
  pub clients : List (Client K V M O)
  pub runs : ℕ

-- `unused inputs` is the ledger of a core that was made with `inputs`
abbrev pub unused : {K V M O : Type 0} → Table → Ledger K V M O
unused inputs = record { inputs = inputs; clients = []; runs = 0 }

-- `IsOpen l c client` is that `client` is the client `c`, and open
pub record IsOpen {K V M O : Type 0} (l : Ledger K V M O) (c : ℕ) (client : Client K V M O) : Type 0 where
  pub here : slice_get l.clients c ≡ Some client
  pub open_yet : client.is_open ≡ true

-- `IsClosed l c` is that the client `c` was opened and closed
pub record IsClosed {K V M O : Type 0} (l : Ledger K V M O) (c : ℕ) : Type 0 where
  pub client : Client K V M O
  pub here : slice_get l.clients c ≡ Some client
  pub closed : client.is_open ≡ false

-- `IsEntry l c client n entry` is that `entry` is the request `n` of `client`, the client `c`
pub record IsEntry {K V M O : Type 0} (l : Ledger K V M O) (c : ℕ) (client : Client K V M O) (n : ℕ) (entry : Entry K V M) : Type 0 where
  pub client_here : slice_get l.clients c ≡ Some client
  pub here : slice_get client.entries n ≡ Some entry

-- `with_client l c client` is `l` with `client` as the client `c`
abbrev pub with_client : {K V M O : Type 0} → Ledger K V M O → ℕ → Client K V M O → Ledger K V M O
with_client l c client = record { inputs = l.inputs; clients = slice_set l.clients c client; runs = l.runs }

-- `with_entry client n entry` is `client` with `entry` as its request `n`
abbrev pub with_entry : {K V M O : Type 0} → Client K V M O → ℕ → Entry K V M → Client K V M O
with_entry client n entry = record { entries = slice_set client.entries n entry; outbox = client.outbox; is_open = client.is_open; refused = client.refused }

-- `with_entries client entries` is `client` with the requests `entries`
abbrev pub with_entries : {K V M O : Type 0} → Client K V M O → List (Entry K V M) → Client K V M O
with_entries client entries = record { entries = entries; outbox = client.outbox; is_open = client.is_open; refused = client.refused }

-- `moved_to entry place` is `entry` in `place`
abbrev pub moved_to : {K V M : Type 0} → Entry K V M → Place K V M → Entry K V M
moved_to entry place = record { request = entry.request; accepted = entry.accepted; place = place; fate = entry.fate }

-- `opened outbox` is a new client
abbrev pub opened : {K V M O : Type 0} → O → Client K V M O
opened outbox = record { entries = []; outbox = outbox; is_open = true; refused = false }

-- `with_outbox client outbox refused` is `client` with `outbox`, whose last release was refused or
-- not
abbrev pub with_outbox : {K V M O : Type 0} → Client K V M O → O → Bool → Client K V M O
with_outbox client outbox refused = record { entries = client.entries; outbox = outbox; is_open = client.is_open; refused = refused }

-- `place_closed place` is where a request in `place` is after the close of its client: one that
-- waits or is ready is dropped
abbrev pub place_closed : {K V M : Type 0} → Place K V M → Place K V M
place_closed Waiting = Dropped
place_closed (Running run started out) = Running run started out
place_closed (Ready reply) = Dropped
place_closed Put = Put
place_closed Dropped = Dropped

-- `entry_closed entry` is `entry` after the close of its client
abbrev pub entry_closed : {K V M : Type 0} → Entry K V M → Entry K V M
entry_closed entry = moved_to entry (place_closed entry.place)

-- `closed client` is `client` after its close
abbrev pub closed : {K V M O : Type 0} → Client K V M O → Client K V M O
closed client = record { entries = map entry_closed client.entries; outbox = client.outbox; is_open = false; refused = client.refused }
