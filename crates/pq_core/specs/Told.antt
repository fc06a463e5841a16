-- The ledger of a store: what a store knows of the world.
--
-- A store does not see what its lanes put: `put_seen` acknowledges it. In its ledger the outbox of a
-- client is the list of the replies that were acknowledged as put. So there a reply is ready from its
-- making until it is acknowledged.
use Rattle.std.specs.Prelude.{ℕ, ◌≡◌, ◌+◌, ◌<◌, ◌^◌, Bool, true, false, zero, suc, List, [], ◌∷◌, ◌++◌, length, map, Option, Some, None, Result, Ok, Err}
use Rattle.pq_core.specs.Replies.{ReplyView}
use Rattle.pq_core.specs.Ledger.{Entry, Client, Ledger, Ready, Put, IsOpen, IsEntry, with_client, with_entry, moved_to, with_outbox, opened, closed}
use Rattle.pq_core.specs.Moves.{NextReady, IsReady, OpenRefusal, open_count, max_clients}
use Rattle.pq_core.specs.declared.values.fault.OpenFault.{OpenFault}
use Rattle.pq_core.specs.declared.values.fault.OpenFault.TheVariants.{TooManyClients}

-- `Told K V M` is the outbox of a client in the ledger of a store: the replies that were acknowledged
-- as put
abbrev pub Told : (K V M : Type 0) → Type 0
Told K V M = List (ReplyView K V M)

-- `told_puts outbox` is the replies that were put into `outbox`
abbrev pub told_puts : {K V M : Type 0} → Told K V M → List (ReplyView K V M)
told_puts outbox = outbox

-- `told_client puts client` is `client` as a store knows it if all that was put is acknowledged. A store
-- does not know whether a release was refused.
abbrev pub told_client : {K V M O : Type 0} → (O → List (ReplyView K V M)) → Client K V M O → Client K V M (Told K V M)
told_client puts client = record { entries = client.entries; outbox = puts client.outbox; is_open = client.is_open; refused = false }

-- `told_ledger puts l` is `l` as a store knows it if all that was put is acknowledged
abbrev pub told_ledger : {K V M O : Type 0} → (O → List (ReplyView K V M)) → Ledger K V M O → Ledger K V M (Told K V M)
told_ledger puts l = record { inputs = l.inputs; clients = map (told_client puts) l.clients; runs = l.runs }

-- ---- replies that are ready

-- `IsReadyAt l c n entry reply` is that `reply` to `entry`, the request `n` of the client `c`, is
-- ready
pub record IsReadyAt {K V M O : Type 0} (l : Ledger K V M O) (c n : ℕ) (entry : Entry K V M) (reply : ReplyView K V M) : Type 0 where
  pub client : Client K V M O
  pub is_entry : IsEntry l c client n entry
  pub ready : entry.place ≡ Ready reply

-- `NoneReadyAt l c n` is that no reply to the request `n` of the client `c` is ready
abbrev pub NoneReadyAt : {K V M O : Type 0} → Ledger K V M O → ℕ → ℕ → Type 0
NoneReadyAt {K} {V} {M} {O} l c n = (entry : Entry K V M) (reply : ReplyView K V M) → IsReadyAt l c n entry reply → ⊥

-- ---- the calls that a core has in other forms

-- `OpensNext answer l m` is that a client is opened, which is the next in number
abbrev pub OpensNext : {K V M : Type 0} → Result ℕ OpenFault → Ledger K V M (Told K V M) → Ledger K V M (Told K V M) → Type 0
OpensNext (Ok c) l m =
    (c ≡ length l.clients) × (open_count l.clients < max_clients)
    × (m ≡ record { inputs = l.inputs; clients = l.clients ++ opened [] ∷ []; runs = l.runs })
OpensNext (Err fault) l m = OpenRefusal l fault × (m ≡ l)

-- `IsNextClient l answer` is that `answer` is the number that the next client gets; or that no client
-- may be opened
abbrev pub IsNextClient : {K V M O : Type 0} → Ledger K V M O → Option ℕ → Type 0
IsNextClient l (Some c) = (c ≡ length l.clients) × (open_count l.clients < max_clients) × (c + 1 < 2 ^ 64)
IsNextClient l None = OpenRefusal l TooManyClients

-- `Shuts c answer l m` is that the client `c` is closed; or that it is not open
abbrev pub Shuts : {K V M O : Type 0} → ℕ → Bool → Ledger K V M O → Ledger K V M O → Type 0
Shuts {K} {V} {M} {O} c true l m = (client : Client K V M O) × IsOpen l c client × (m ≡ with_client l c (closed client))
Shuts {K} {V} {M} {O} c false l m = ((client : Client K V M O) → IsOpen l c client → ⊥) × (m ≡ l)

-- ---- what was put

-- `TellsOne c l m` is that the next reply to the client `c`, which is ready, was put
abbrev pub TellsOne : {K V M : Type 0} → ℕ → Ledger K V M (Told K V M) → Ledger K V M (Told K V M) → Type 0
TellsOne {K} {V} {M} c l m =
    (next : NextReady K V M (Told K V M)) × IsReady told_puts l c next
    × (m ≡ with_client l c (with_outbox (with_entry next.client (length next.client.outbox) (moved_to next.entry Put)) (next.client.outbox ++ next.reply ∷ []) false))

-- `Tells c k l m` is that the next `k` replies to the client `c` were put
unfoldable pub Tells : {K V M : Type 0} → ℕ → ℕ → Ledger K V M (Told K V M) → Ledger K V M (Told K V M) → Type 0
Tells c zero l m = m ≡ l
Tells {K} {V} {M} c (suc k) l m = (via : Ledger K V M (Told K V M)) × TellsOne c l via × Tells c k via m
