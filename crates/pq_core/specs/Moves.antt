-- The moves of the ledger: for each call of a core, which answers it may give at a ledger, and
-- which ledger is reached. Each relation goes by cases on the answer. A refusal names its
-- condition; `Memory` comes only where none of the other refusals holds. Every refusal leaves the
-- ledger as it was and hands back what was handed in.
use Rattle.std.specs.Prelude.{ℕ, ◌≡◌, ◌≢◌, ◌+◌, ◌-◌, ◌<◌, ◌≤◌, ◌^◌, ◌%◌, ◌⊎◌, eqb, Bool, true, false, List, [], ◌∷◌, ◌++◌, length, slice_get, slice_set, Option, Some, None, unwrap_or, Ok, Err, Result}
use Rattle.std.specs.declared.cmp.Ordering.{Ordering}
use Rattle.pq_inputs.specs.Sources.{File, Sources, Table, file_in, with_file}
use Rattle.pq_inputs.specs.Refusal.{refusal}
use Rattle.pq_inputs.specs.declared.fault.InputFault.{InputFault}
use Rattle.pq_inputs.specs.declared.fault.InputFault.TheVariants.{Memory as NoMemory}
use Rattle.pq_rules.specs.declared.turn.Answer.{Answer}
use Rattle.pq_rules.specs.Turns.{Machine}
use Rattle.pq_core.specs.Changes.{BodyView, set, ranged, ChangeView, text_after}
use Rattle.pq_core.specs.Points.{Point}
use Rattle.pq_core.specs.Replies.{ReplyView}
use Rattle.pq_core.specs.Works.{DoneView, WorkView, IsWorkOf}
use Rattle.pq_core.specs.Outboxes.{TakesNext}
use Rattle.pq_core.specs.Ledger.{Out, Place, Waiting, Running, Ready, Put, Dropped, Fate, Unharmed, WasStarved, WasWithdrawn, Entry, Client, Ledger, IsOpen, IsClosed, IsEntry, with_client, with_entry, with_entries, moved_to, opened, with_outbox, closed}
use Rattle.pq_core.specs.RightReply.{IsValueAt, answer_by}
use Rattle.pq_core.specs.declared.values.label.Label.{Label}
use Rattle.pq_core.specs.declared.values.request.Request.{Request}
use Rattle.pq_core.specs.declared.values.request.Want.{Want}
use Rattle.pq_core.specs.declared.values.request.Want.TheVariants.{Demand, Fixed}
use Rattle.pq_core.specs.declared.values.outcome.Outcome.{Outcome}
use Rattle.pq_core.specs.declared.values.outcome.Outcome.TheVariants.{Answered, Plain, Cancelled, Starved, Withdrawn}
use Rattle.pq_core.specs.declared.values.fault.OpenFault.{OpenFault}
use Rattle.pq_core.specs.declared.values.fault.OpenFault.TheVariants.{TooManyClients, Memory as OpenMemory}
use Rattle.pq_core.specs.declared.values.fault.OpenRefused.{OpenRefused}
use Rattle.pq_core.specs.declared.values.fault.AcceptFault.{AcceptFault}
use Rattle.pq_core.specs.declared.values.fault.AcceptFault.TheVariants.{NoClient as AcceptNoClient, Closed as AcceptClosed, WindowFull, Memory as AcceptMemory}
use Rattle.pq_core.specs.declared.values.fault.AcceptRefused.{AcceptRefused}
use Rattle.pq_core.specs.declared.values.fault.EditFault.{EditFault}
use Rattle.pq_core.specs.declared.values.fault.EditFault.TheVariants.{NoClient as EditNoClient, Closed as EditClosed, BadRange, Input}
use Rattle.pq_core.specs.declared.values.fault.EditRefused.{EditRefused}
use Rattle.pq_core.specs.declared.values.fault.LookFault.{LookFault}
use Rattle.pq_core.specs.declared.values.fault.LookFault.TheVariants.{NoRun, Memory as LookMemory}
use Rattle.pq_core.specs.declared.values.fault.GiveFault.{GiveFault}
use Rattle.pq_core.specs.declared.values.fault.GiveFault.TheVariants.{NotThisRun, Memory as GiveMemory}
use Rattle.pq_core.specs.declared.values.fault.GiveRefused.{GiveRefused}
use Rattle.pq_core.specs.declared.values.fault.WithdrawFault.{WithdrawFault}
use Rattle.pq_core.specs.declared.values.fault.WithdrawFault.TheVariants.{NoClient as WithdrawNoClient, Closed as WithdrawClosed}
use Rattle.pq_core.specs.declared.values.moves.Move.{Move}
use Rattle.pq_core.specs.declared.values.moves.Move.TheVariants.{Carry, Blocked, Stepped, Answered as MoveAnswered, Stopped}
use Rattle.pq_core.specs.declared.values.moves.Released.{Released}
use Rattle.pq_core.specs.declared.values.moves.Released.TheVariants.{Put as ReleasedPut, Full as ReleasedFull, Gone as ReleasedGone, Nothing as ReleasedNothing}

-- `Reaches Move l Stands` is that `Move` leads from `l` to a ledger for which `Stands` holds
abbrev pub Reaches : {K V M O : Type 0} → (Ledger K V M O → Ledger K V M O → Type 0) → Ledger K V M O → (Ledger K V M O → Type 0) → Type 0
Reaches {K} {V} {M} {O} Move l Stands = (m : Ledger K V M O) × Move l m × Stands m

-- ---- limits

-- `max_clients` is the number of clients that may be open
abbrev pub max_clients : ℕ
max_clients = 64

-- `window` is the number of requests of a client that may be accepted and not yet put
abbrev pub window : ℕ
window = 32

-- ---- open

-- `one_if test` is 1 if `test` is true, else 0
abbrev pub one_if : Bool → ℕ
one_if true = 1
one_if false = 0

-- `open_count clients` is the number of the open ones of `clients`
unfoldable pub open_count : {K V M O : Type 0} → List (Client K V M O) → ℕ
open_count [] = 0
open_count (client ∷ clients) = one_if client.is_open + open_count clients

-- `OpenRefusal l fault` is that no client may be opened at `l`, because of `fault`
abbrev pub OpenRefusal : {K V M O : Type 0} → Ledger K V M O → OpenFault → Type 0
OpenRefusal l TooManyClients = (max_clients ≤ open_count l.clients) ⊎ (2 ^ 64 ≤ length l.clients + 1)
OpenRefusal l OpenMemory = open_count l.clients < max_clients

-- `Opens outbox answer l m` is that a client with `outbox` is opened, which is the next in number
abbrev pub Opens : {K V M O : Type 0} → O → Result ℕ (OpenRefused O) → Ledger K V M O → Ledger K V M O → Type 0
Opens outbox (Ok c) l m =
    (c ≡ length l.clients) × (open_count l.clients < max_clients)
    × (m ≡ record { inputs = l.inputs; clients = l.clients ++ opened outbox ∷ []; runs = l.runs })
Opens outbox (Err refused) l m = (refused.outbox ≡ outbox) × OpenRefusal l refused.fault × (m ≡ l)

-- ---- accept

-- `owed puts client` is the number of requests of `client` that were accepted and not yet put
abbrev pub owed : {K V M O : Type 0} → (O → List (ReplyView K V M)) → Client K V M O → ℕ
owed puts client = length client.entries - length (puts client.outbox)

-- `first_place c n request revision want` is where the request `n` of the client `c` is from its
-- acceptance on: a demand waits, and the reply to a fixed text is ready
abbrev pub first_place : {K V M : Type 0} → ℕ → ℕ → Request K → ℕ → Want K → Place K V M
first_place c n request revision (Demand key) = Waiting
first_place c n request revision (Fixed text) = Ready (record { client = c; number = n; request = request; revision = revision; outcome = Plain })

-- `new_entry c n request revision` is `request`, accepted at `revision`
abbrev pub new_entry : {K V M : Type 0} → ℕ → ℕ → Request K → ℕ → Entry K V M
new_entry c n request revision = record { request = request; accepted = revision; place = first_place c n request revision request.want; fate = Unharmed }

-- `with_new client entry` is `client` with one more request
abbrev pub with_new : {K V M O : Type 0} → Client K V M O → Entry K V M → Client K V M O
with_new client entry = record { entries = client.entries ++ entry ∷ []; outbox = client.outbox; is_open = client.is_open; refused = client.refused }

-- `AcceptRefusal puts l c fault` is that the client `c` may not post a request, because of `fault`
abbrev pub AcceptRefusal : {K V M O : Type 0} → (O → List (ReplyView K V M)) → Ledger K V M O → ℕ → AcceptFault → Type 0
AcceptRefusal puts l c AcceptNoClient = length l.clients ≤ c
AcceptRefusal puts l c AcceptClosed = IsClosed l c
AcceptRefusal {K} {V} {M} {O} puts l c WindowFull = (client : Client K V M O) × IsOpen l c client × ((window ≤ owed puts client) ⊎ (2 ^ 64 ≤ length client.entries + 1))
AcceptRefusal {K} {V} {M} {O} puts l c AcceptMemory = (client : Client K V M O) × IsOpen l c client × (owed puts client < window)

-- `Accepts puts c request answer l m` is that `request` of the open client `c` gets the next
-- number, at the revision now
abbrev pub Accepts : {K V M O : Type 0} → (O → List (ReplyView K V M)) → ℕ → Request K → Result ℕ (AcceptRefused K) → Ledger K V M O → Ledger K V M O → Type 0
Accepts {K} {V} {M} {O} puts c request (Ok n) l m =
    (client : Client K V M O) × IsOpen l c client × (n ≡ length client.entries) × (owed puts client < window)
    × (m ≡ with_client l c (with_new client (new_entry c n request l.inputs.revision)))
Accepts puts c request (Err refused) l m = (refused.request ≡ request) × AcceptRefusal puts l c refused.fault × (m ≡ l)

-- ---- turns

-- `place_ended is_open reply` is where a request is whose run has ended: `reply` is ready, unless
-- the client was closed
abbrev pub place_ended : {K V M : Type 0} → Bool → ReplyView K V M → Place K V M
place_ended true reply = Ready reply
place_ended false reply = Dropped

-- `turn_length` is the number of revisions from a turn to the next
abbrev pub turn_length : ℕ
turn_length = 1024

-- `is_turn revision` is whether the edit that makes `revision` ends every run
abbrev pub is_turn : ℕ → Bool
is_turn revision = eqb (revision % turn_length) 0

-- `turned l c n is_open started entry` is `entry`, the request `n` of the client `c`, whose run was
-- started at the revision `started`, after a turn at `l`: it is cancelled, or dropped where the client
-- was closed
abbrev pub turned : {K V M O : Type 0} → Ledger K V M O → ℕ → ℕ → Bool → ℕ → Entry K V M → Entry K V M
turned l c n is_open started entry =
    moved_to entry (place_ended is_open (record { client = c; number = n; request = entry.request; revision = l.inputs.revision; outcome = Cancelled started l.inputs.revision }))

-- `TurnsEntry l c n is_open before after` is what a turn at `l` makes of `before`, the request `n` of the
-- client `c`: if it is in a run, the run is over; else it stays as it is
abbrev pub TurnsEntry : {K V M O : Type 0} → Ledger K V M O → ℕ → ℕ → Bool → Entry K V M → Entry K V M → Type 0
TurnsEntry {K} l c n is_open before after =
    ((run : ℕ) × (started : ℕ) × (out : Option (Out K)) × (before.place ≡ Running run started out) × (after ≡ turned l c n is_open started before))
    ⊎ (((run started : ℕ) (out : Option (Out K)) → before.place ≡ Running run started out → ⊥) × (after ≡ before))

-- `TurnsClient l c before after` is what it makes of `before`, the client `c`
pub record TurnsClient {K V M O : Type 0} (l : Ledger K V M O) (c : ℕ) (before after : Client K V M O) : Type 0 where
  pub outbox : after.outbox ≡ before.outbox
  pub is_open : after.is_open ≡ before.is_open
  pub refused : after.refused ≡ before.refused
  pub long : length after.entries ≡ length before.entries
  pub each : (n : ℕ) (x y : Entry K V M) → slice_get before.entries n ≡ Some x → slice_get after.entries n ≡ Some y → TurnsEntry l c n before.is_open x y

-- `Turns l m` is that a turn leads from `l` to `m`: each run is over
pub record Turns {K V M O : Type 0} (l m : Ledger K V M O) : Type 0 where
  pub inputs : m.inputs ≡ l.inputs
  pub runs : m.runs ≡ l.runs
  pub long : length m.clients ≡ length l.clients
  pub each : (c : ℕ) (x y : Client K V M O) → slice_get l.clients c ≡ Some x → slice_get m.clients c ≡ Some y → TurnsClient l c x y

-- `TurnsIf test l m` is that a turn leads from `l` to `m` if `test` is true, and that else `m` is `l`
abbrev pub TurnsIf : {K V M O : Type 0} → Bool → Ledger K V M O → Ledger K V M O → Type 0
TurnsIf true l m = Turns l m
TurnsIf false l m = m ≡ l

-- ---- edit

-- `text_made files change` is the text of the file of `change` after it, where the sources before are
-- `files`, or None where a range of `change` is bad
abbrev pub text_made : Sources → ChangeView → Option (Option (List ℕ))
text_made files change = text_after (file_in files change.file).text change.body

-- `file_of files change` is the file of `change` after it, where the sources before are `files`. Where
-- a range is bad, no file is made of it.
abbrev pub file_of : Sources → ChangeView → File
file_of files change = record { text = unwrap_or (text_made files change) None; durability = change.durability }

-- `changed inputs change` is `inputs` after `change`, at the next revision
abbrev pub changed : Table → ChangeView → Table
changed inputs change = record {
  files = with_file inputs.files change.file (file_of inputs.files change);
  revision = inputs.revision + 1;
  history = inputs.history ++ with_file inputs.files change.file (file_of inputs.files change) ∷ [];
  limit = inputs.limit;
}

-- `inputs_after inputs change answer` is `inputs` after an edit that answered so: `change` is made
-- unless it was refused
abbrev pub inputs_after : {A B : Type 0} → Table → ChangeView → Result A B → Table
inputs_after inputs change (Ok revision) = changed inputs change
inputs_after inputs change (Err refused) = inputs

-- `InputRefusal first fault` is that `fault` is the reason `first`, or an allocation failure where
-- there is no reason
abbrev pub InputRefusal : Option InputFault → InputFault → Type 0
InputRefusal None fault = fault ≡ NoMemory
InputRefusal (Some first) fault = fault ≡ first

-- `IsRanged body` is that `body` is a list of changes, for whose text an allocation can fail
abbrev pub IsRanged : BodyView → Type 0
IsRanged (set text) = ⊥
IsRanged (ranged changes) = Unit {0}

-- `FailsToSet inputs change fault` is that `fault` is the reason of `inputs` to refuse the text that
-- `change` makes; or that an allocation failed while changes with ranges were made, whatever else there
-- is to refuse
abbrev pub FailsToSet : Table → ChangeView → InputFault → Type 0
FailsToSet inputs change fault =
    ((text : Option (List ℕ)) × (text_made inputs.files change ≡ Some text) × InputRefusal (refusal inputs change.file text) fault)
    ⊎ (IsRanged change.body × (fault ≡ NoMemory))

-- `EditRefusal l c change fault` is that the client `c` may not make `change`, because of `fault`
abbrev pub EditRefusal : {K V M O : Type 0} → Ledger K V M O → ℕ → ChangeView → EditFault → Type 0
EditRefusal l c change EditNoClient = length l.clients ≤ c
EditRefusal l c change EditClosed = IsClosed l c
EditRefusal {K} {V} {M} {O} l c change BadRange =
    (client : Client K V M O) × IsOpen l c client × (text_made l.inputs.files change ≡ None)
EditRefusal {K} {V} {M} {O} l c change (Input fault) =
    (client : Client K V M O) × IsOpen l c client × FailsToSet l.inputs change fault

-- `edited l change` is `l` after `change`, before any run ends
abbrev pub edited : {K V M O : Type 0} → Ledger K V M O → ChangeView → Ledger K V M O
edited l change = record { inputs = changed l.inputs change; clients = l.clients; runs = l.runs }

-- `Edits c change answer l m` is that the open client `c` makes `change`, at the next revision: its
-- ranges are good, and the inputs have no reason to refuse the text that it makes. Where the revision
-- is a turn, every run ends in the same event.
abbrev pub Edits : {K V M O : Type 0} → ℕ → ChangeView → Result ℕ EditRefused → Ledger K V M O → Ledger K V M O → Type 0
Edits {K} {V} {M} {O} c change (Ok revision) l m =
    (client : Client K V M O) × IsOpen l c client
    × ((text : Option (List ℕ)) × (text_made l.inputs.files change ≡ Some text) × (refusal l.inputs change.file text ≡ None))
    × (revision ≡ l.inputs.revision + 1)
    × TurnsIf (is_turn revision) (edited l change) m
Edits c change (Err refused) l m = (refused.change ≡ change) × EditRefusal l c change refused.fault × (m ≡ l)

-- ---- start

-- `Waits l c client n entry` is that the request `n` of the client `c` waits
pub record Waits {K V M O : Type 0} (l : Ledger K V M O) (c : ℕ) (client : Client K V M O) (n : ℕ) (entry : Entry K V M) : Type 0 where
  pub is_entry : IsEntry l c client n entry
  pub waits : entry.place ≡ Waiting

-- `NoneWaits l` is that no request waits
abbrev pub NoneWaits : {K V M O : Type 0} → Ledger K V M O → Type 0
NoneWaits {K} {V} {M} {O} l = (c : ℕ) (client : Client K V M O) (n : ℕ) (entry : Entry K V M) → Waits l c client n entry → ⊥

-- `started_at l run c client n entry` is `l` with `run`, the next in number, for the request `n` of
-- the client `c`
abbrev pub started_at : {K V M O : Type 0} → Ledger K V M O → ℕ → ℕ → Client K V M O → ℕ → Entry K V M → Ledger K V M O
started_at l run c client n entry = record {
  inputs = l.inputs;
  clients = slice_set l.clients c (with_entry client n (moved_to entry (Running run l.inputs.revision None)));
  runs = l.runs + 1;
}

-- `Starts answer l m` is that some request that waits is started, as the next run in number, at the
-- revision now; there is no answer only where no request waits or the numbers of runs are used up
abbrev pub Starts : {K V M O : Type 0} → Option ℕ → Ledger K V M O → Ledger K V M O → Type 0
Starts {K} {V} {M} {O} (Some run) l m =
    (c : ℕ) × (client : Client K V M O) × (n : ℕ) × (entry : Entry K V M) × Waits l c client n entry × (run ≡ l.runs)
    × (m ≡ started_at l run c client n entry)
Starts None l m = (NoneWaits l ⊎ (2 ^ 64 ≤ l.runs + 1)) × (m ≡ l)

-- ---- runs

-- `RunAt K V M O` names a run: its client and number, its request, the revision of its start, and its
-- work that is out
pub record RunAt (K V M O : Type 0) : Type 0 where
  pub c : ℕ
  pub client : Client K V M O
  pub n : ℕ
  pub entry : Entry K V M
  pub started : ℕ
  pub out : Option (Out K)

-- `Runs l run at` is that `run` is the run `at` of `l`
pub record Runs {K V M O : Type 0} (l : Ledger K V M O) (run : ℕ) (at : RunAt K V M O) : Type 0 where
  pub is_entry : IsEntry l at.c at.client at.n at.entry
  pub runs : at.entry.place ≡ Running run at.started at.out

-- `NoneRuns l run` is that `run` does not exist: it was never started, or it is over
abbrev pub NoneRuns : {K V M O : Type 0} → Ledger K V M O → ℕ → Type 0
NoneRuns {K} {V} {M} {O} l run = (at : RunAt K V M O) → Runs l run at → ⊥

-- `IsRequestOf l run answer` is that `answer` is the client and the number of the request of `run`
abbrev pub IsRequestOf : {K V M O : Type 0} → Ledger K V M O → ℕ → Option (ℕ × ℕ) → Type 0
IsRequestOf {K} {V} {M} {O} l run (Some named) = (at : RunAt K V M O) × Runs l run at × (named.0 ≡ at.c) × (named.1 ≡ at.n)
IsRequestOf l run None = NoneRuns l run

-- `reply_at l at outcome` is the reply of `outcome` to the request of the run `at`, at the revision
-- now
abbrev pub reply_at : {K V M O : Type 0} → Ledger K V M O → RunAt K V M O → Outcome K V M → ReplyView K V M
reply_at l at outcome = record { client = at.c; number = at.n; request = at.entry.request; revision = l.inputs.revision; outcome = outcome }

-- `ended_entry l at fate outcome` is the request of the run `at` after its end with `outcome`
abbrev pub ended_entry : {K V M O : Type 0} → Ledger K V M O → RunAt K V M O → Fate → Outcome K V M → Entry K V M
ended_entry l at fate outcome = record {
  request = at.entry.request;
  accepted = at.entry.accepted;
  place = place_ended at.client.is_open (reply_at l at outcome);
  fate = fate;
}

-- `ended l at fate outcome` is `l` after the end of the run `at` with `outcome`
abbrev pub ended : {K V M O : Type 0} → Ledger K V M O → RunAt K V M O → Fate → Outcome K V M → Ledger K V M O
ended l at fate outcome = with_client l at.c (with_entry at.client at.n (ended_entry l at fate outcome))

-- `with_out l run at out` is `l` with `out` as the work of `run`, the run `at`, that is out
abbrev pub with_out : {K V M O : Type 0} → Ledger K V M O → ℕ → RunAt K V M O → Option (Out K) → Ledger K V M O
with_out l run at out = with_client l at.c (with_entry at.client at.n (moved_to at.entry (Running run at.started out)))

-- `IsOvertaken l at` is that an edit was accepted since the run `at` started, or its client was
-- closed
abbrev pub IsOvertaken : {K V M O : Type 0} → Ledger K V M O → RunAt K V M O → Type 0
IsOvertaken l at = (at.started < l.inputs.revision) ⊎ (at.client.is_open ≡ false)

-- `IsCurrent l at` is that the run `at` was started at the revision now, for a client that is open
pub record IsCurrent {K V M O : Type 0} (l : Ledger K V M O) (at : RunAt K V M O) : Type 0 where
  pub now : at.started ≡ l.inputs.revision
  pub open_yet : at.client.is_open ≡ true

-- `Stops l run m` is that `run`, which was overtaken, ends: cancelled, or without a reply where its
-- client was closed
abbrev pub Stops : {K V M O : Type 0} → Ledger K V M O → ℕ → Ledger K V M O → Type 0
Stops {K} {V} {M} {O} l run m =
    (at : RunAt K V M O) × Runs l run at × IsOvertaken l at
    × (m ≡ ended l at at.entry.fate (Cancelled at.started l.inputs.revision))

-- `GoesOn l run at` is that `run` is current and its work is not out
pub record GoesOn {K V M O : Type 0} (l : Ledger K V M O) (run : ℕ) (at : RunAt K V M O) : Type 0 where
  pub runs : Runs l run at
  pub current : IsCurrent l at
  pub idle : at.out ≡ None

-- `AnswersWith means l at answer stamp` is that `answer` is that of the key of the run `at` at the
-- sources now, and that `stamp` is of the revision now
pub record AnswersWith {K V M O : Type 0} (means : M → Point → K → Answer K V → Type 0) (l : Ledger K V M O) (at : RunAt K V M O) (answer : Answer K V) (stamp : M) : Type 0 where
  pub key : K
  pub demanded : at.entry.request.want ≡ Demand key
  pub is_value : IsValueAt means l.inputs l.inputs.revision key answer stamp

-- `out_of done` is what is kept of work that is out, whose result will be `done`
abbrev pub out_of : {R K P V : Type 0} → DoneView R K P V → Out K
out_of done = record { key = done.key; reads = length done.front }

-- `IsBlocked l run at other` is that `run`, the run `at`, waits for the run `other`: for itself while
-- its work is out, else for another run, which started no later
abbrev pub IsBlocked : {K V M O : Type 0} → Ledger K V M O → ℕ → RunAt K V M O → ℕ → Type 0
IsBlocked {K} {V} {M} {O} l run at other =
    (((out : Out K) × (at.out ≡ Some out)) × (other ≡ run))
    ⊎ ((at.out ≡ None) × (other ≢ run) × ((there : RunAt K V M O) × Runs l other there × (there.started ≤ at.started)))

-- `LooksFor means rules run answer l m` is one step of `run`: it stops exactly where it was
-- overtaken; while its work is out it is blocked by itself; else it hands out work, goes on,
-- answers, or is blocked by another run
abbrev pub LooksFor : {R K P V M O : Type 0} → (M → Point → K → Answer K V → Type 0) → R → ℕ → Result (Move (WorkView R K P V)) LookFault → Ledger K V M O → Ledger K V M O → Type 0
LooksFor {R} {K} {P} {V} {M} {O} means rules run (Ok (Carry work)) l m =
    (at : RunAt K V M O) × GoesOn l run at × IsWorkOf rules run at.started l.inputs.files work × (m ≡ with_out l run at (Some (out_of work.done)))
LooksFor {R} {K} {P} {V} {M} {O} means rules run (Ok (Blocked other)) l m =
    (at : RunAt K V M O) × Runs l run at × IsCurrent l at × IsBlocked l run at other × (m ≡ l)
LooksFor {R} {K} {P} {V} {M} {O} means rules run (Ok Stepped) l m = (at : RunAt K V M O) × GoesOn l run at × (m ≡ l)
LooksFor {R} {K} {P} {V} {M} {O} means rules run (Ok MoveAnswered) l m =
    (at : RunAt K V M O) × GoesOn l run at
    × ((answer : Answer K V) × (stamp : M) × AnswersWith means l at answer stamp × (m ≡ ended l at at.entry.fate (Answered answer stamp)))
LooksFor means rules run (Ok Stopped) l m = Stops l run m
LooksFor means rules run (Err NoRun) l m = NoneRuns l run × (m ≡ l)
LooksFor {R} {K} {P} {V} {M} {O} means rules run (Err LookMemory) l m = (at : RunAt K V M O) × GoesOn l run at × (m ≡ l)

-- `Looks order machine point rules run answer l m` is one step of `run` by the rule set `machine`,
-- where `point` says of which revision and sources a stamp is
abbrev pub Looks : {R K P V M O : Type 0} → (K → K → Ordering) → Machine K P V → (M → Point) → R → ℕ → Result (Move (WorkView R K P V)) LookFault → Ledger K V M O → Ledger K V M O → Type 0
Looks order machine point rules run answer l m = LooksFor (answer_by order machine point) rules run answer l m

-- `IsMade rules inputs done` is that `done`, if it was started at the revision now, is of `rules`
-- and of the sources now
abbrev pub IsMade : {R K P V : Type 0} → R → Table → DoneView R K P V → Type 0
IsMade rules inputs done = done.started ≡ inputs.revision → (done.rules ≡ rules) × (done.files ≡ inputs.files)

-- `IsOf run at done` is that `done` is of the work of `run`, the run `at`, that is out
pub record IsOf {R K P V M O : Type 0} (run : ℕ) (at : RunAt K V M O) (done : DoneView R K P V) : Type 0 where
  pub run_same : done.run ≡ run
  pub started : done.started ≡ at.started
  pub out : at.out ≡ Some (out_of done)

-- `Gives run done answer l m` is that `done` is given to `run`: the run stops exactly where it was
-- overtaken, and else takes the result
abbrev pub Gives : {R K P V M O : Type 0} → ℕ → DoneView R K P V → Result (Move (WorkView R K P V)) (GiveRefused (DoneView R K P V)) → Ledger K V M O → Ledger K V M O → Type 0
Gives run done (Ok (Carry work)) l m = ⊥
Gives run done (Ok (Blocked other)) l m = ⊥
Gives {R} {K} {P} {V} {M} {O} run done (Ok Stepped) l m =
    (at : RunAt K V M O) × Runs l run at × IsOf run at done × IsCurrent l at × (m ≡ with_out l run at None)
Gives run done (Ok MoveAnswered) l m = ⊥
Gives {R} {K} {P} {V} {M} {O} run done (Ok Stopped) l m =
    (at : RunAt K V M O) × Runs l run at × IsOf run at done × IsOvertaken l at
    × (m ≡ ended l at at.entry.fate (Cancelled at.started l.inputs.revision))
Gives {R} {K} {P} {V} {M} {O} run done (Err refused) l m = (refused.done ≡ done) × GiveRefusal l run done refused.fault × (m ≡ l)
  where
    -- the result is of no work of the run that is out; or an allocation failed
    GiveRefusal : Ledger K V M O → ℕ → DoneView R K P V → GiveFault → Type 0
    GiveRefusal k r d NotThisRun = (at : RunAt K V M O) → Runs k r at → IsOf r at d → ⊥
    GiveRefusal k r d GiveMemory = (at : RunAt K V M O) × Runs k r at × IsOf r at d × IsCurrent k at

-- `Starves run answer l m` is that `run`, if it exists, is starved
abbrev pub Starves : {K V M O : Type 0} → ℕ → Bool → Ledger K V M O → Ledger K V M O → Type 0
Starves {K} {V} {M} {O} run true l m = (at : RunAt K V M O) × Runs l run at × (m ≡ ended l at WasStarved Starved)
Starves run false l m = NoneRuns l run × (m ≡ l)

-- ---- withdraw

-- `IsOwed place` is that a request in `place` waits or is in a run
abbrev pub IsOwed : {K V M : Type 0} → Place K V M → Type 0
IsOwed Waiting = Unit {0}
IsOwed (Running run started out) = Unit {0}
IsOwed (Ready reply) = ⊥
IsOwed Put = ⊥
IsOwed Dropped = ⊥

-- `MayWithdraw label entry` is that `entry` waits or is in a run, and has the label `label`
pub record MayWithdraw {K V M : Type 0} (label : Label) (entry : Entry K V M) : Type 0 where
  pub owed : IsOwed entry.place
  pub labelled : entry.request.label ≡ label

-- `withdrawn l c n entry` is `entry`, the request `n` of the client `c`, after it was withdrawn: the
-- reply says so, at the revision now. A run that it was in is over.
abbrev pub withdrawn : {K V M O : Type 0} → Ledger K V M O → ℕ → ℕ → Entry K V M → Entry K V M
withdrawn l c n entry = record {
  request = entry.request;
  accepted = entry.accepted;
  place = Ready (record { client = c; number = n; request = entry.request; revision = l.inputs.revision; outcome = Withdrawn });
  fate = WasWithdrawn;
}

-- `WithdrawsEntry l c label n before after` is that `before`, the request `n` of the client `c`, is
-- withdrawn exactly where it may be
abbrev pub WithdrawsEntry : {K V M O : Type 0} → Ledger K V M O → ℕ → Label → ℕ → Entry K V M → Entry K V M → Type 0
WithdrawsEntry l c label n before after =
    (MayWithdraw label before × (after ≡ withdrawn l c n before)) ⊎ ((MayWithdraw label before → ⊥) × (after ≡ before))

-- `WithdrawsEach l c label before after` is this of each of the requests `before` of the client `c`
pub record WithdrawsEach {K V M O : Type 0} (l : Ledger K V M O) (c : ℕ) (label : Label) (before after : List (Entry K V M)) : Type 0 where
  pub long : length after ≡ length before
  pub each : (n : ℕ) (x y : Entry K V M) → slice_get before n ≡ Some x → slice_get after n ≡ Some y → WithdrawsEntry l c label n x y

-- `HasLabelled label entries` is that one of `entries` may be withdrawn
abbrev pub HasLabelled : {K V M : Type 0} → Label → List (Entry K V M) → Type 0
HasLabelled {K} {V} {M} label entries = (n : ℕ) × (entry : Entry K V M) × (slice_get entries n ≡ Some entry) × MayWithdraw label entry

-- `TellsSome answer label entries` is that `answer` is whether one of `entries` may be withdrawn
abbrev pub TellsSome : {K V M : Type 0} → Bool → Label → List (Entry K V M) → Type 0
TellsSome true label entries = HasLabelled label entries
TellsSome false label entries = HasLabelled label entries → ⊥

-- `WithdrawRefusal l c fault` is that the client `c` may not withdraw a request, because of `fault`
abbrev pub WithdrawRefusal : {K V M O : Type 0} → Ledger K V M O → ℕ → WithdrawFault → Type 0
WithdrawRefusal l c WithdrawNoClient = length l.clients ≤ c
WithdrawRefusal l c WithdrawClosed = IsClosed l c

-- `Withdraws c label answer l m` is that the open client `c` withdraws each of its requests with the
-- label `label` that waits or is in a run, and no other; the answer is whether there was one
abbrev pub Withdraws : {K V M O : Type 0} → ℕ → Label → Result Bool WithdrawFault → Ledger K V M O → Ledger K V M O → Type 0
Withdraws {K} {V} {M} {O} c label (Ok answer) l m =
    (client : Client K V M O) × IsOpen l c client × TellsSome answer label client.entries
    × ((after : List (Entry K V M)) × WithdrawsEach l c label client.entries after × (m ≡ with_client l c (with_entries client after)))
Withdraws c label (Err fault) l m = WithdrawRefusal l c fault × (m ≡ l)

-- ---- release

-- `HasReady puts client entry reply` is that `client` is open, and that `reply` to its request
-- `entry`, the next after those put, is ready
pub record HasReady {K V M O : Type 0} (puts : O → List (ReplyView K V M)) (client : Client K V M O) (entry : Entry K V M) (reply : ReplyView K V M) : Type 0 where
  pub open_yet : client.is_open ≡ true
  pub here : slice_get client.entries (length (puts client.outbox)) ≡ Some entry
  pub ready : entry.place ≡ Ready reply

-- `NextReady K V M O` is a reply to a client that is the next
pub record NextReady (K V M O : Type 0) : Type 0 where
  pub client : Client K V M O
  pub entry : Entry K V M
  pub reply : ReplyView K V M

-- `IsReady puts l c next` is that `next` is the next reply to the open client `c`, and ready
pub record IsReady {K V M O : Type 0} (puts : O → List (ReplyView K V M)) (l : Ledger K V M O) (c : ℕ) (next : NextReady K V M O) : Type 0 where
  pub here : slice_get l.clients c ≡ Some next.client
  pub ready : HasReady puts next.client next.entry next.reply

-- `NoneReady puts l c` is that the next reply to the client `c` is not ready, or that it is not
-- open
abbrev pub NoneReady : {K V M O : Type 0} → (O → List (ReplyView K V M)) → Ledger K V M O → ℕ → Type 0
NoneReady {K} {V} {M} {O} puts l c = (next : NextReady K V M O) → IsReady puts l c next → ⊥

-- `IsSame puts takes o p` is that `o` and `p` have the same replies put and taken
pub record IsSame {K V M O : Type 0} (puts takes : O → List (ReplyView K V M)) (o p : O) : Type 0 where
  pub puts_same : puts p ≡ puts o
  pub takes_same : takes p ≡ takes o

-- `Releases puts takes was_full was_gone c answer l m` is that the next reply to the open client `c`
-- enters its outbox; or that the outbox refuses it, since it is full or its other end is gone; or
-- that no reply is ready
abbrev pub Releases : {K V M O : Type 0} → (puts takes : O → List (ReplyView K V M)) → (was_full was_gone : O → Type 0) → ℕ → Released → Ledger K V M O → Ledger K V M O → Type 0
Releases {K} {V} {M} {O} puts takes was_full was_gone c (ReleasedPut n) l m =
    (next : NextReady K V M O) × IsReady puts l c next × (n ≡ length (puts next.client.outbox))
    × ((o : O) × (puts o ≡ puts next.client.outbox ++ next.reply ∷ []) × (takes o ≡ takes next.client.outbox)
    × (m ≡ with_client l c (with_outbox (with_entry next.client n (moved_to next.entry Put)) o false)))
Releases {K} {V} {M} {O} puts takes was_full was_gone c ReleasedFull l m =
    (next : NextReady K V M O) × IsReady puts l c next
    × ((o : O) × IsSame puts takes next.client.outbox o × was_full o × (m ≡ with_client l c (with_outbox next.client o true)))
Releases {K} {V} {M} {O} puts takes was_full was_gone c ReleasedGone l m =
    (next : NextReady K V M O) × IsReady puts l c next
    × ((o : O) × IsSame puts takes next.client.outbox o × was_gone o × (m ≡ with_client l c (with_outbox next.client o true)))
Releases puts takes was_full was_gone c ReleasedNothing l m = NoneReady puts l c × (m ≡ l)

-- ---- close, take, rest

-- `Closes c answer l m` is that the client `c` is closed, and its outbox comes back; or that it is
-- not open
abbrev pub Closes : {K V M O : Type 0} → ℕ → Option O → Ledger K V M O → Ledger K V M O → Type 0
Closes {K} {V} {M} {O} c (Some o) l m =
    (client : Client K V M O) × IsOpen l c client × (o ≡ client.outbox) × (m ≡ with_client l c (closed client))
Closes {K} {V} {M} {O} c None l m = ((client : Client K V M O) → IsOpen l c client → ⊥) × (m ≡ l)

-- `TakesOut puts takes c answer l m` is that the first reply that was put to the open client `c`
-- and not taken is taken out of its outbox; or that there is none; or that an allocation failed
abbrev pub TakesOut : {A K V M O : Type 0} → (puts takes : O → List (ReplyView K V M)) → ℕ → Result Bool A → Ledger K V M O → Ledger K V M O → Type 0
TakesOut {A} {K} {V} {M} {O} puts takes c (Ok true) l m =
    (client : Client K V M O) × IsOpen l c client
    × ((o : O) × (puts o ≡ puts client.outbox) × TakesNext (puts client.outbox) (takes client.outbox) (takes o)
    × (m ≡ with_client l c (with_outbox client o client.refused)))
TakesOut {A} {K} {V} {M} {O} puts takes c (Ok false) l m =
    ((client : Client K V M O) → IsOpen l c client → length (puts client.outbox) ≡ length (takes client.outbox)) × (m ≡ l)
TakesOut puts takes c (Err failure) l m = m ≡ l

-- `IsAtRest puts l` is that no request waits, no run exists, and no open client's next reply is
-- ready unless its last release was refused
pub record IsAtRest {K V M O : Type 0} (puts : O → List (ReplyView K V M)) (l : Ledger K V M O) : Type 0 where
  pub waiting : NoneWaits l
  pub running : (run : ℕ) → NoneRuns l run
  pub refused : (c : ℕ) (next : NextReady K V M O) → IsReady puts l c next → next.client.refused ≡ true
