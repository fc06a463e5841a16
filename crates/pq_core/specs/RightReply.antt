-- A right reply: it names its client, its number and the request that was accepted under that
-- number, and its outcome is true.
use Rattle.std.specs.Prelude.{ℕ, ◌≡◌, ◌<◌, ◌≤◌, slice_get, Some}
use Rattle.pq_inputs.specs.Sources.{Sources, Table}
use Rattle.std.specs.declared.cmp.Ordering.{Ordering}
use Rattle.pq_rules.specs.declared.turn.Answer.{Answer}
use Rattle.pq_rules.specs.Turns.{Machine, over}
use Rattle.pq_rules.specs.Value.{Means}
use Rattle.pq_core.specs.Points.{Point}
use Rattle.pq_core.specs.Replies.{ReplyView}
use Rattle.pq_core.specs.Ledger.{Fate, WasStarved, WasWithdrawn, Entry, Client, Ledger, IsEntry}
use Rattle.pq_core.specs.declared.values.request.Want.{Want}
use Rattle.pq_core.specs.declared.values.request.Want.TheVariants.{Demand, Fixed}
use Rattle.pq_core.specs.declared.values.outcome.Outcome.{Outcome}
use Rattle.pq_core.specs.declared.values.outcome.Outcome.TheVariants.{Answered, Plain, Cancelled, Starved, Withdrawn}

-- `answer_by order machine point stamp at key answer` is that `answer` is that of `key` from scratch,
-- over the sources of `at`, and that `at` is the point of `stamp`
abbrev pub answer_by : {K P V M : Type 0} → (K → K → Ordering) → Machine K P V → (M → Point) → M → Point → K → Answer K V → Type 0
answer_by order machine point stamp at key answer = (point stamp ≡ at) × Means (over order machine at.files) key answer

-- `IsValueAt means inputs revision key answer stamp` is that `answer` is that of `key` at the sources
-- of `revision`, and that `stamp` is of that revision and these sources, where `means` says what keys
-- and stamps mean
pub record IsValueAt {K V M : Type 0} (means : M → Point → K → Answer K V → Type 0) (inputs : Table) (revision : ℕ) (key : K) (answer : Answer K V) (stamp : M) : Type 0 where
  pub files : Sources
  pub there : slice_get inputs.history revision ≡ Some files
  pub means_so : means stamp (record { revision = revision; files = files }) key answer

-- `IsTrueOutcome means inputs accepted fate want revision outcome` is that `outcome` at
-- `revision` is true of a request for `want` that was accepted at `accepted`: an answer is that of
-- its key at a revision not before the acceptance, with the stamp of that revision; a cancellation names the revision of the run's
-- start and a later one, so an edit was accepted between; a starved one was starved, and a withdrawn
-- one was withdrawn by its client
abbrev pub IsTrueOutcome : {K V M : Type 0} → (M → Point → K → Answer K V → Type 0) → Table → (accepted : ℕ) → (fate : Fate) → Want K → (revision : ℕ) → Outcome K V M → Type 0
IsTrueOutcome means inputs accepted fate (Demand key) revision (Answered answer stamp) =
    (accepted ≤ revision) × (revision ≤ inputs.revision) × IsValueAt means inputs revision key answer stamp
IsTrueOutcome means inputs accepted fate (Demand key) revision Plain = ⊥
IsTrueOutcome means inputs accepted fate (Demand key) revision (Cancelled started seen) =
    (accepted ≤ started) × (started < seen) × (seen ≤ inputs.revision) × (revision ≡ seen)
IsTrueOutcome means inputs accepted fate (Demand key) revision Starved =
    (fate ≡ WasStarved) × (accepted ≤ revision) × (revision ≤ inputs.revision)
IsTrueOutcome means inputs accepted fate (Demand key) revision Withdrawn =
    (fate ≡ WasWithdrawn) × (accepted ≤ revision) × (revision ≤ inputs.revision)
IsTrueOutcome means inputs accepted fate (Fixed text) revision (Answered answer stamp) = ⊥
IsTrueOutcome means inputs accepted fate (Fixed text) revision Plain = revision ≡ accepted
IsTrueOutcome means inputs accepted fate (Fixed text) revision (Cancelled started seen) = ⊥
IsTrueOutcome means inputs accepted fate (Fixed text) revision Starved = ⊥
IsTrueOutcome means inputs accepted fate (Fixed text) revision Withdrawn = ⊥

-- `IsRightFor means inputs c n entry reply` is that `reply` is right as the one to `entry`, the
-- request `n` of the client `c`
pub record IsRightFor {K V M : Type 0} (means : M → Point → K → Answer K V → Type 0) (inputs : Table) (c n : ℕ) (entry : Entry K V M) (reply : ReplyView K V M) : Type 0 where
  pub client : reply.client ≡ c
  pub number : reply.number ≡ n
  pub request : reply.request ≡ entry.request
  pub outcome : IsTrueOutcome means inputs entry.accepted entry.fate entry.request.want reply.revision reply.outcome

-- `IsRight means l c n reply` is that `reply` is right as the reply `n` to the client `c` of `l`
pub record IsRight {K V M O : Type 0} (means : M → Point → K → Answer K V → Type 0) (l : Ledger K V M O) (c n : ℕ) (reply : ReplyView K V M) : Type 0 where
  pub client : Client K V M O
  pub entry : Entry K V M
  pub is_entry : IsEntry l c client n entry
  pub right : IsRightFor means l.inputs c n entry reply
