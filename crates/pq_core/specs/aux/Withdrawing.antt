-- Auxiliary: what a client's request has to do before its reply is made, and the withdrawal of one
-- request after the other.
use Rattle.std.specs.Prelude.{ℕ, ◌≡◌, ◌⊎◌, ◌<◌, ◌≤◌, Bool, true, false, List, length, slice_get, Some, None}
use Rattle.pq_core.specs.Accounts.{AccountView, IsStage, with_stage}
use Rattle.pq_core.specs.Ledger.{Entry, Client, Ledger, IsOpen, with_client, with_entry, with_entries}
use Rattle.pq_core.specs.Ledger.{Waiting as PlaceWaiting}
use Rattle.pq_core.specs.Replies.{ReplyView}
use Rattle.pq_core.specs.Moves.{MayWithdraw, WithdrawsEntry, withdrawn}
use Rattle.pq_core.specs.Lanes.{ReadyView}
use Rattle.pq_core.specs.Stores.{Held}
use Rattle.pq_core.specs.aux.Rising.{found}
use Rattle.pq_core.specs.aux.Runs.{RunView}
use Rattle.pq_core.specs.declared.store.account.Begun.{Begun}
use Rattle.pq_core.specs.declared.store.account.Stage.{Stage}
use Rattle.pq_core.specs.declared.store.account.Stage.TheVariants.{Waiting, Running, Made, Collected}
use Rattle.pq_core.specs.declared.values.fault.WithdrawFault.{WithdrawFault}
use Rattle.pq_core.specs.declared.values.fault.WithdrawFault.TheVariants.{NoClient, Closed}
use Rattle.pq_core.specs.declared.values.label.Label.{Label}
use Rattle.pq_core.specs.declared.values.request.Request.{Request}
use Rattle.pq_core.specs.declared.values.outcome.Outcome.TheVariants.{Withdrawn}
use Rattle.pq_core.specs.declared.store.rising.Place.{Place}
use Rattle.pq_core.specs.declared.calls.withdrawing.Owed.{Owed}
use Rattle.pq_core.specs.declared.calls.withdrawing.Owed.TheVariants.{Nothing, Waits, Runs}

-- `MayNotWithdraw h c fault` is that the client `c` may not withdraw a request, because of `fault`
abbrev pub MayNotWithdraw : {K P V M : Type 0} → Held K P V M → ℕ → WithdrawFault → Type 0
MayNotWithdraw h c NoClient = h.clients ≤ c
MayNotWithdraw h c Closed = (c < h.clients) × (found h.accounts c ≡ None)

-- `IsOtherStage runs label stage` is that a request in `stage` does not wait and is in none of
-- `runs`, or has another label than `label`
abbrev pub IsOtherStage : {K P T : Type 0} → List (Place (RunView K P)) → Label → Stage K T → Type 0
IsOtherStage runs label (Waiting request accepted) = request.label ≡ label → ⊥
IsOtherStage {K} {P} runs label (Running begun) = (run : RunView K P) → found runs begun.run ≡ Some run → run.request.label ≡ label → ⊥
IsOtherStage runs label (Made ready) = Unit {0}
IsOtherStage runs label Collected = Unit {0}

-- `IsOwedStage runs label stage owed` is that `owed` is what a request in `stage` has to do, if it
-- has the label `label`. A request in a run is that of one of `runs`.
abbrev pub IsOwedStage : {K P T : Type 0} → List (Place (RunView K P)) → Label → Stage K T → Owed → Type 0
IsOwedStage runs label stage Nothing = IsOtherStage runs label stage
IsOwedStage {K} {P} {T} runs label stage Waits = (request : Request K) × (accepted : ℕ) × (stage ≡ Waiting request accepted) × (request.label ≡ label)
IsOwedStage {K} {P} {T} runs label stage (Runs run) =
    (begun : Begun) × (there : RunView K P) × (stage ≡ Running begun) × (begun.run ≡ run) × (found runs run ≡ Some there) × (there.request.label ≡ label)

-- `IsOwedIn account runs n label owed` is this of the request `n` of `account`, which has nothing
-- to do where there is no such request
abbrev pub IsOwedIn : {K P V M : Type 0} → AccountView K V M → List (Place (RunView K P)) → ℕ → Label → Owed → Type 0
IsOwedIn {K} {P} {V} {M} account runs n label owed =
    ((stage : Stage K (ReadyView K V M)) × IsStage account n stage × IsOwedStage runs label stage owed)
    ⊎ ((owed ≡ Nothing) × ((stage : Stage K (ReadyView K V M)) → IsStage account n stage → ⊥))

-- `IsRunOf c runs owed` is that the run of `runs` that has to end, if one has to, is of a request
-- of the client `c`
abbrev pub IsRunOf : {K P : Type 0} → ℕ → List (Place (RunView K P)) → Owed → Type 0
IsRunOf c runs Nothing = Unit {0}
IsRunOf c runs Waits = Unit {0}
IsRunOf {K} {P} c runs (Runs r) = (run : RunView K P) → found runs r ≡ Some run → run.client ≡ c

-- `withdrawn_reply c n request revision` is the reply to `request`, the request `n` of the client
-- `c`, which was withdrawn at `revision`
abbrev pub withdrawn_reply : {K V M : Type 0} → ℕ → ℕ → Request K → ℕ → ReplyView K V M
withdrawn_reply c n request revision = record { client = c; number = n; request = request; revision = revision; outcome = Withdrawn }

-- `IsWithdrawnIn c n revision before after` is that the request `n` of the account `before` of the
-- client `c` waits, and that `after` is the account after it was withdrawn at `revision`
pub record IsWithdrawnIn {K V M : Type 0} (c n revision : ℕ) (before after : AccountView K V M) : Type 0 where
  pub request : Request K
  pub accepted : ℕ
  pub waits : IsStage before n (Waiting request accepted)
  pub is : after ≡ with_stage before n (Made (record { reply = withdrawn_reply c n request revision; accepted = accepted }))

-- `WithdrawsWaiting c n l m` is that the request `n` of the open client `c`, which waits, is
-- withdrawn
abbrev pub WithdrawsWaiting : {K V M O : Type 0} → ℕ → ℕ → Ledger K V M O → Ledger K V M O → Type 0
WithdrawsWaiting {K} {V} {M} {O} c n l m =
    (client : Client K V M O) × IsOpen l c client × ((entry : Entry K V M) × (slice_get client.entries n ≡ Some entry) × (entry.place ≡ PlaceWaiting) × (m ≡ with_client l c (with_entry client n (withdrawn l c n entry))))

-- `WithdrawsOne c n label answer l m` is that the request `n` of the open client `c` is withdrawn,
-- if it may be, and that `answer` is whether it was
abbrev pub WithdrawsOne : {K V M O : Type 0} → ℕ → ℕ → Label → Bool → Ledger K V M O → Ledger K V M O → Type 0
WithdrawsOne {K} {V} {M} {O} c n label true l m =
    (client : Client K V M O) × IsOpen l c client × ((entry : Entry K V M) × (slice_get client.entries n ≡ Some entry) × MayWithdraw label entry × (m ≡ with_client l c (with_entry client n (withdrawn l c n entry))))
WithdrawsOne {K} {V} {M} {O} c n label false l m =
    (client : Client K V M O) × IsOpen l c client × ((entry : Entry K V M) → slice_get client.entries n ≡ Some entry → MayWithdraw label entry → ⊥) × (m ≡ l)

-- `IsWithdrawnBelow l c label k n before after` is what the withdrawal of the requests below `k`
-- makes of `before`, the request `n` of the client `c`
abbrev pub IsWithdrawnBelow : {K V M O : Type 0} → Ledger K V M O → ℕ → Label → (k n : ℕ) → Entry K V M → Entry K V M → Type 0
IsWithdrawnBelow l c label k n before after = ((n < k) × WithdrawsEntry l c label n before after) ⊎ ((k ≤ n) × (after ≡ before))

-- `TellsBelow answer label k entries` is that `answer` is whether one of `entries` below `k` may be
-- withdrawn
abbrev pub TellsBelow : {K V M : Type 0} → Bool → Label → ℕ → List (Entry K V M) → Type 0
TellsBelow {K} {V} {M} true label k entries = (n : ℕ) × (entry : Entry K V M) × (n < k) × (slice_get entries n ≡ Some entry) × MayWithdraw label entry
TellsBelow {K} {V} {M} false label k entries = (n : ℕ) (entry : Entry K V M) → n < k → slice_get entries n ≡ Some entry → MayWithdraw label entry → ⊥

-- `WithdrawsBelow c label k answer l m` is that the open client `c` withdraws each of its requests
-- below `k` that it may, and that `answer` is whether there was one
pub record WithdrawsBelow {K V M O : Type 0} (c : ℕ) (label : Label) (k : ℕ) (answer : Bool) (l m : Ledger K V M O) : Type 0 where
  pub client : Client K V M O
  pub open_yet : IsOpen l c client
  pub tells : TellsBelow answer label k client.entries
  pub after : List (Entry K V M)
  pub long : length after ≡ length client.entries
  pub each : (n : ℕ) (x y : Entry K V M) → slice_get client.entries n ≡ Some x → slice_get after n ≡ Some y → IsWithdrawnBelow l c label k n x y
  pub is : m ≡ with_client l c (with_entries client after)

-- `WithdrawsRuns c label before after` is that each run of `before` is in `after` as it was, or
-- over; one that is over was of a request of the client `c` with the label `label`
abbrev pub WithdrawsRuns : {K P : Type 0} → ℕ → Label → (before after : List (Place (RunView K P))) → Type 0
WithdrawsRuns {K} {P} c label before after =
    (r : ℕ) → (found after r ≡ found before r)
    ⊎ ((found after r ≡ None) × ((run : RunView K P) → found before r ≡ Some run → (run.client ≡ c) × (run.request.label ≡ label)))
