-- What holds of every ledger that is reached: the replies that were put are those of the first
-- requests, in order, and each reply is right.
use Rattle.std.specs.Prelude.{ℕ, ◌≡◌, ◌+◌, ◌≤◌, List, length, slice_get, Some}
use Rattle.pq_inputs.specs.Sources.{Table}
use Rattle.pq_rules.specs.declared.turn.Answer.{Answer}
use Rattle.pq_core.specs.Points.{Point}
use Rattle.pq_core.specs.Replies.{ReplyView}
use Rattle.pq_core.specs.Ledger.{Place, Waiting, Running, Ready, Put, Dropped, Entry, Client, Ledger}
use Rattle.pq_core.specs.RightReply.{IsRightFor}
use Rattle.pq_core.specs.declared.values.request.Want.{Want}
use Rattle.pq_core.specs.declared.values.request.Want.TheVariants.{Demand, Fixed}

-- `IsDemand want` is that the request is for the answer of a key
abbrev pub IsDemand : {K : Type 0} → Want K → Type 0
IsDemand (Demand key) = Unit {0}
IsDemand (Fixed text) = ⊥

-- `PlaceKept means inputs puts c n entry place` is what holds of `entry`, the request `n` of the
-- client `c`, in `place`, where `puts` are the replies put to the client
abbrev pub PlaceKept : {K V M : Type 0} → (M → Point → K → Answer K V → Type 0) → Table → List (ReplyView K V M) → ℕ → ℕ → Entry K V M → Place K V M → Type 0
PlaceKept means inputs puts c n entry Waiting = (length puts ≤ n) × IsDemand entry.request.want
PlaceKept means inputs puts c n entry (Running run started out) =
    (length puts ≤ n) × IsDemand entry.request.want × (entry.accepted ≤ started) × (started ≤ inputs.revision)
PlaceKept means inputs puts c n entry (Ready reply) = (length puts ≤ n) × IsRightFor means inputs c n entry reply
PlaceKept {K} {V} {M} means inputs puts c n entry Put = (reply : ReplyView K V M) × (slice_get puts n ≡ Some reply) × IsRightFor means inputs c n entry reply
PlaceKept means inputs puts c n entry Dropped = length puts ≤ n

-- `EntryKept means inputs puts c n entry` is what holds of the request `entry`
pub record EntryKept {K V M : Type 0} (means : M → Point → K → Answer K V → Type 0) (inputs : Table) (puts : List (ReplyView K V M)) (c n : ℕ) (entry : Entry K V M) : Type 0 where
  pub past : entry.accepted ≤ inputs.revision
  pub placed : PlaceKept means inputs puts c n entry entry.place

-- `ClientKept means inputs puts c entries` is what holds of the requests `entries` of a client
pub record ClientKept {K V M : Type 0} (means : M → Point → K → Answer K V → Type 0) (inputs : Table) (puts : List (ReplyView K V M)) (c : ℕ) (entries : List (Entry K V M)) : Type 0 where
  pub few : length puts ≤ length entries
  pub each : (n : ℕ) (entry : Entry K V M) → slice_get entries n ≡ Some entry → EntryKept means inputs puts c n entry

-- `InputsKept inputs` is that the history has the sources at each revision up to the last
pub record InputsKept (inputs : Table) : Type 0 where
  pub counted : length inputs.history ≡ inputs.revision + 1
  pub latest : slice_get inputs.history inputs.revision ≡ Some inputs.files

-- `Kept means puts l` is what holds of `l`
pub record Kept {K V M O : Type 0} (means : M → Point → K → Answer K V → Type 0) (puts : O → List (ReplyView K V M)) (l : Ledger K V M O) : Type 0 where
  pub inputs : InputsKept l.inputs
  pub clients : (c : ℕ) (client : Client K V M O) → slice_get l.clients c ≡ Some client → ClientKept means l.inputs (puts client.outbox) c client.entries
