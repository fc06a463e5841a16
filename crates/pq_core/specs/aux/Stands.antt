-- Auxiliary: the ledgers that a store stands for.
--
-- `L` is the type of seats, and `AsSeat seat client` is that `seat` is kept of the open `client`.
use Rattle.std.specs.Prelude.{ℕ, ◌≡◌, ◌<◌, true, false, List, length, slice_get, Option, Some, None}
use Rattle.pq_inputs.specs.Sources.{Table}
use Rattle.pq_rules.specs.declared.turn.Answer.{Answer}
use Rattle.pq_core.specs.Points.{Point}
use Rattle.pq_core.specs.Replies.{ReplyView}
use Rattle.pq_core.specs.Ledger.{Out, Place, Waiting, Running, Ready, Put, Dropped, Entry, Client, Ledger}
use Rattle.pq_core.specs.Moves.{open_count}
use Rattle.pq_core.specs.Kept.{Kept}
use Rattle.pq_core.specs.declared.values.request.Request.{Request}

-- `RunSeen K` is what the ledger knows of a run
pub record RunSeen (K : Type 0) : Type 0 where
  pub client : ℕ
  pub number : ℕ
  pub request : Request K
  pub started : ℕ
  pub out : Option (Out K)

-- `Fields K L` is what a store keeps of clients and runs: the seats of the open clients and their
-- count, the count of all clients, the runs, and the count of those started
pub record Fields (K L : Type 0) : Type 0 where
  pub inputs : Table
  pub seats : ℕ → Option L
  pub opened : ℕ
  pub clients : ℕ
  pub runs : ℕ → Option (RunSeen K)
  pub started : ℕ

-- `EntryStands f c n entry place` is what the store keeps of the request `n` of the client `c` in
-- `place`
abbrev pub EntryStands : {K V M L : Type 0} → Fields K L → ℕ → ℕ → Entry K V M → Place K V M → Type 0
EntryStands f c n entry Waiting = Unit {0}
EntryStands f c n entry (Running r s o) =
    (r < f.started) × (f.runs r ≡ Some (record { client = c; number = n; request = entry.request; started = s; out = o }))
EntryStands f c n entry (Ready reply) = Unit {0}
EntryStands f c n entry Put = Unit {0}
EntryStands f c n entry Dropped = Unit {0}

-- `IsOwedNothing place` is that a request in `place` neither waits nor is ready
abbrev pub IsOwedNothing : {K V M : Type 0} → Place K V M → Type 0
IsOwedNothing Waiting = ⊥
IsOwedNothing (Running r s o) = Unit {0}
IsOwedNothing (Ready reply) = ⊥
IsOwedNothing Put = Unit {0}
IsOwedNothing Dropped = Unit {0}

-- `ClientStands AsSeat f c client` is what the store keeps of the client `c`
pub record ClientStands {K V M L O : Type 0} (AsSeat : L → Client K V M O → Type 0) (f : Fields K L) (c : ℕ) (client : Client K V M O) : Type 0 where
  pub seat : client.is_open ≡ true → (seat : L) × (f.seats c ≡ Some seat) × AsSeat seat client
  pub shut : client.is_open ≡ false → f.seats c ≡ None
  -- of a closed client no request waits, and no reply is ready
  pub dropped : client.is_open ≡ false → (n : ℕ) (entry : Entry K V M) → slice_get client.entries n ≡ Some entry → IsOwedNothing entry.place
  pub entries : (n : ℕ) (entry : Entry K V M) → slice_get client.entries n ≡ Some entry → EntryStands f c n entry entry.place

-- `HasRun l r run` is that `run` is the run `r` of the ledger
pub record HasRun {K V M O : Type 0} (l : Ledger K V M O) (r : ℕ) (run : RunSeen K) : Type 0 where
  pub client : Client K V M O
  pub entry : Entry K V M
  pub client_here : slice_get l.clients run.client ≡ Some client
  pub here : slice_get client.entries run.number ≡ Some entry
  pub runs : entry.place ≡ Running r run.started run.out
  pub request : run.request ≡ entry.request

-- `Stands AsSeat means puts f l` is that a store with the fields `f` stands for the ledger `l`
pub record Stands {K V M L O : Type 0} (AsSeat : L → Client K V M O → Type 0) (means : M → Point → K → Answer K V → Type 0) (puts : O → List (ReplyView K V M))
    (f : Fields K L) (l : Ledger K V M O) : Type 0 where
  pub inputs : l.inputs ≡ f.inputs
  pub clients : length l.clients ≡ f.clients
  pub opened : open_count l.clients ≡ f.opened
  pub started : l.runs ≡ f.started
  pub within : (c : ℕ) (seat : L) → f.seats c ≡ Some seat → c < f.clients
  pub each : (c : ℕ) (client : Client K V M O) → slice_get l.clients c ≡ Some client → ClientStands AsSeat f c client
  pub runs : (r : ℕ) (run : RunSeen K) → f.runs r ≡ Some run → HasRun l r run
  pub kept : Kept means puts l
