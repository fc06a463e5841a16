-- Auxiliary: runs. A run brings the key of one request up to date at the sources of its start, in
-- steps. Other runs take steps on the same table of memos in between. The invariant is that of a
-- run whose start is the revision now.
--
-- `order` is the order of the keys, `m` the rule set, `inputs` the inputs, and a table is a
-- function from keys.
use Rattle.std.specs.Prelude.{ℕ, ◌≡◌, ◌≢◌, ◌⊎◌, ◌≤◌, List, [], ◌∷◌, ◌++◌, length, Option, Some, None, Result, Ok, Err}
use Rattle.std.specs.declared.cmp.Ordering.{Ordering}
use Rattle.pq_inputs.specs.Sources.{Table}
use Rattle.pq_rules.specs.declared.turn.Turn.{Turn}
use Rattle.pq_rules.specs.declared.turn.Answer.{Answer}
use Rattle.pq_rules.specs.Turns.{Machine, over}
use Rattle.pq_rules.specs.Relations.{In}
use Rattle.pq_rules.specs.Value.{Means}
use Rattle.pq_memo.specs.declared.stepping.frame.Frame.{Frame}
use Rattle.pq_memo.specs.Sound.{Memo}
use Rattle.pq_memo.specs.Look.{IsUpToDate}
use Rattle.pq_memo.specs.Table.{View, memo_at, HasIn, KeptOver}
use Rattle.pq_memo.specs.Writes.{Dated}
use Rattle.pq_memo.specs.Frames.{Came, IsFrame, Awaits, frame_keys}
use Rattle.pq_memo.specs.Steps.{IsWhy}
use Rattle.pq_memo.specs.Demand.{Differ}
use Rattle.pq_memo.specs.declared.stepping.frame.Stage.TheVariants.{Walking}
use Rattle.pq_claims.specs.Claims.{Hold, Holds, IsClosed, WaitsFor as RunWaitsFor, hold_of}
use Rattle.pq_core.specs.Ledger.{Out}
use Rattle.pq_core.specs.Works.{WorkView, HasWhy}
use Rattle.pq_core.specs.Moves.{out_of}
use Rattle.pq_core.specs.declared.values.request.Request.{Request}
use Rattle.pq_core.specs.declared.values.request.Want.TheVariants.{Demand}
use Rattle.pq_core.specs.declared.runs.frames.Pending.{Pending}
use Rattle.pq_core.specs.declared.runs.frames.Top.{Top}
use Rattle.pq_core.specs.declared.runs.frames.Top.TheVariants.{Empty, At, Away}
use Rattle.pq_core.specs.declared.runs.frames.Looked.{Looked}
use Rattle.pq_core.specs.declared.runs.frames.Looked.TheVariants.{Carry, Stepped, Blocked, Ring}
use Rattle.pq_core.specs.declared.store.rising.Place.{Place}
use Rattle.pq_core.specs.aux.Rising.{found}

-- `RunView K P` is a run: its client, the number of its request, the request, the revision of its
-- start, the frames below the top, and the top
pub record RunView (K P : Type 0) : Type 0 where
  pub client : ℕ
  pub number : ℕ
  pub request : Request K
  pub started : ℕ
  pub stack : List (Frame K P)
  pub top : Top K P

-- `IsSameRun old new` is that `new` is the run `old` at another step
pub record IsSameRun {K P : Type 0} (old new : RunView K P) : Type 0 where
  pub client : new.client ≡ old.client
  pub number : new.number ≡ old.number
  pub request : new.request ≡ old.request
  pub started : new.started ≡ old.started

-- `out_at top` is the work that is out, if it is
abbrev pub out_at : {K P : Type 0} → Top K P → Option (Out K)
out_at Empty = None
out_at (At frame) = None
out_at (Away pending) = Some (record { key = pending.key; reads = length pending.reads.items })

-- `top_keys top` is the key of `top`, if it has one
abbrev pub top_keys : {K P : Type 0} → Top K P → List K
top_keys Empty = []
top_keys (At frame) = frame.key ∷ []
top_keys (Away pending) = pending.key ∷ []

-- `run_keys stack top` is the keys of the frames of a run, the lowest first
abbrev pub run_keys : {K P : Type 0} → List (Frame K P) → Top K P → List K
run_keys stack top = frame_keys stack ++ top_keys top

-- `claimed_keys run` is the keys that `run` holds, if it exists
abbrev pub claimed_keys : {K P : Type 0} → Option (RunView K P) → List K
claimed_keys None = []
claimed_keys (Some run) = run_keys run.stack run.top

-- `AreClaimed claims runs` is that each of `runs` holds the keys of its frames, and no other run any
abbrev pub AreClaimed : {K P : Type 0} → List (ℕ × Hold K) → List (Place (RunView K P)) → Type 0
AreClaimed claims runs = (r : ℕ) → (hold_of claims r).keys ≡ claimed_keys (found runs r)

-- `HoldsBelow claims run stack` is that `run` holds the keys of `stack` and one key more
abbrev pub HoldsBelow : {K P : Type 0} → List (ℕ × Hold K) → ℕ → List (Frame K P) → Type 0
HoldsBelow {K} claims run stack = (k : K) × ((hold_of claims run).keys ≡ frame_keys stack ++ k ∷ [])

-- `OthersHold run before after` is that each run but `run` holds the same keys, and waits `after`
-- for no other key than `before`
abbrev pub OthersHold : {K : Type 0} → ℕ → (before after : List (ℕ × Hold K)) → Type 0
OthersHold {K} run before after =
    (r : ℕ) → r ≢ run → ((hold_of after r).keys ≡ (hold_of before r).keys) × ((k : K) → (hold_of after r).wait ≡ Some k → (hold_of before r).wait ≡ Some k)

-- `IsHeldUp claims run other` is that `run` waits for a key that `other` holds, which is another run
abbrev pub IsHeldUp : {K : Type 0} → List (ℕ × Hold K) → ℕ → ℕ → Type 0
IsHeldUp claims run other = (other ≢ run) × RunWaitsFor claims run other

-- `IsRenewed m now before after k` is that `after` has of `k` the memo of `before`, or that `k` was
-- not up to date and has a memo that was verified now, with the changed revision of its answer
abbrev pub IsRenewed : {K P V : Type 0} → Machine K P V → ℕ → (K → Option (Memo K V)) → (K → Option (Memo K V)) → K → Type 0
IsRenewed {K} {P} {V} m now before after k =
    (after k ≡ before k)
    ⊎ ((IsUpToDate m now (HasIn before) k → ⊥) × ((memo : Memo K V) × HasIn after k memo × (memo.verified ≡ now) × Dated now (HasIn before) k memo))

-- `Renewed m now before after` is that this holds of each key
abbrev pub Renewed : {K P V : Type 0} → Machine K P V → ℕ → (K → Option (Memo K V)) → (K → Option (Memo K V)) → Type 0
Renewed {K} m now before after = (k : K) → IsRenewed m now before after k

-- `CanGoOn order m inputs table f` is that the key of `f` is up to date, or can be brought up to
-- date from its stage on
abbrev pub CanGoOn : {K P V : Type 0} → (K → K → Ordering) → Machine K P V → Table → (K → Option (Memo K V)) → Frame K P → Type 0
CanGoOn order m inputs table f =
    IsUpToDate m inputs.revision (HasIn table) f.key ⊎ IsFrame order m inputs.history inputs.revision (HasIn table) f.key f.stage

-- `WaitsFor order m inputs table f z` is that the key of `f` is up to date, or that `f` waits for
-- `z`
abbrev pub WaitsFor : {K P V : Type 0} → (K → K → Ordering) → Machine K P V → Table → (K → Option (Memo K V)) → Frame K P → K → Type 0
WaitsFor order m inputs table f z =
    IsUpToDate m inputs.revision (HasIn table) f.key ⊎ Awaits order m inputs.history inputs.revision (HasIn table) f.key f.stage z

-- `first_key z fs` is the key of the first of `fs`, or `z` if there is none
abbrev pub first_key : {K P : Type 0} → K → List (Frame K P) → K
first_key z [] = z
first_key z (f ∷ fs) = f.key

-- `WaitsUp order m inputs table z fs` is that the key of each of `fs` is up to date, or the frame
-- waits for the key of the next, and the last for `z`
unfoldable pub WaitsUp : {K P V : Type 0} → (K → K → Ordering) → Machine K P V → Table → (K → Option (Memo K V)) → K → List (Frame K P) → Type 0
WaitsUp order m inputs table z [] = Unit {0}
WaitsUp order m inputs table z (f ∷ fs) = WaitsFor order m inputs table f (first_key z fs) × WaitsUp order m inputs table z fs

-- `KeptBelow order m inputs table stack k` is what holds of the frames below the top, whose key is
-- `k`
pub record KeptBelow {K P V : Type 0} (order : K → K → Ordering) (m : Machine K P V) (inputs : Table) (table : K → Option (Memo K V))
    (stack : List (Frame K P)) (k : K) : Type 0 where
  pub waits : WaitsUp order m inputs table k stack
  pub differ : Differ (frame_keys stack)
  pub apart : In k (frame_keys stack) → ⊥

-- `CanTake order m inputs table pending` is that the key of `pending` is up to date, or that its
-- rule came, by the reads, to some turn
abbrev pub CanTake : {K P V : Type 0} → (K → K → Ordering) → Machine K P V → Table → (K → Option (Memo K V)) → Pending K → Type 0
CanTake {K} {P} {V} order m inputs table pending =
    IsUpToDate m inputs.revision (HasIn table) pending.key
    ⊎ ((turn : Turn K P V) × Came order m inputs.history inputs.revision (HasIn table) pending.key turn pending.reads.items)

-- `TopAwaits order m inputs table top k` is that a run may wait for `k` whose top is `top`: it has no
-- frame, or the key of the top frame is up to date, or that frame waits for `k`
abbrev pub TopAwaits : {K P V : Type 0} → (K → K → Ordering) → Machine K P V → Table → (K → Option (Memo K V)) → Top K P → K → Type 0
TopAwaits order m inputs table Empty k = Unit {0}
TopAwaits order m inputs table (At f) k = WaitsFor order m inputs table f k
TopAwaits order m inputs table (Away p) k = ⊥

-- `WaitStands order m inputs table claims run top` is that `run`, whose top is `top`, may wait for the
-- key that it waits for, if it waits
abbrev pub WaitStands : {K P V : Type 0} → (K → K → Ordering) → Machine K P V → Table → (K → Option (Memo K V)) → List (ℕ × Hold K) → ℕ → Top K P → Type 0
WaitStands {K} order m inputs table claims run top = (k : K) → (hold_of claims run).wait ≡ Some k → TopAwaits order m inputs table top k

-- `AreStale m now table ks` is that none of `ks` is up to date
abbrev pub AreStale : {K P V : Type 0} → Machine K P V → ℕ → (K → Option (Memo K V)) → List K → Type 0
AreStale {K} m now table ks = (k : K) → In k ks → IsUpToDate m now (HasIn table) k → ⊥

-- `OthersUnwritten claims run before after` is that `after` has the memo of `before` of each key that
-- another run than `run` holds
abbrev pub OthersUnwritten : {K V : Type 0} → List (ℕ × Hold K) → ℕ → (before after : K → Option (Memo K V)) → Type 0
OthersUnwritten {K} claims run before after = (r : ℕ) (k : K) → r ≢ run → Holds claims r k → after k ≡ before k

-- `HeldUnwritten claims before after` is that `after` has the memo of `before` of each key that a run
-- holds
abbrev pub HeldUnwritten : {K V : Type 0} → List (ℕ × Hold K) → (before after : K → Option (Memo K V)) → Type 0
HeldUnwritten {K} claims before after = (r : ℕ) (k : K) → Holds claims r k → after k ≡ before k

-- `HasMarked order machine inputs claims before after` is that the memos `after` are those of `before`,
-- but for some that are verified now, of keys that no run holds
pub record HasMarked {R K P V : Type 0} (order : K → K → Ordering) (machine : R → Machine K P V) (inputs : Table) (claims : List (ℕ × Hold K))
    (before after : View R K V) : Type 0 where
  pub rules : after.rules ≡ before.rules
  pub kept : KeptOver order (machine before.rules) inputs after.places
  pub renewed : Renewed (machine before.rules) inputs.revision (memo_at order before.places) (memo_at order after.places)
  pub unwritten : HeldUnwritten claims (memo_at order before.places) (memo_at order after.places)

-- `FramesKept order m inputs table stack top` is the invariant of the frames of a run that was
-- started at the revision now
abbrev pub FramesKept : {K P V : Type 0} → (K → K → Ordering) → Machine K P V → Table → (K → Option (Memo K V)) → List (Frame K P) → Top K P → Type 0
FramesKept order m inputs table stack Empty = stack ≡ []
FramesKept order m inputs table stack (At f) = KeptBelow order m inputs table stack f.key × CanGoOn order m inputs table f
FramesKept order m inputs table stack (Away p) = KeptBelow order m inputs table stack p.key × CanTake order m inputs table p

-- `RunKept order m inputs table run` is that of a run
abbrev pub RunKept : {K P V : Type 0} → (K → K → Ordering) → Machine K P V → Table → (K → Option (Memo K V)) → RunView K P → Type 0
RunKept order m inputs table run = FramesKept order m inputs table run.stack run.top

-- `IsLowered before after top` is that the last frame of `before`, if there is one, is the top, and
-- `after` those below
abbrev pub IsLowered : {K P : Type 0} → List (Frame K P) → List (Frame K P) → Top K P → Type 0
IsLowered before after Empty = (before ≡ []) × (after ≡ [])
IsLowered before after (At f) = before ≡ after ++ f ∷ []
IsLowered before after (Away p) = ⊥

-- `HandedOut m rules inputs table run top work` is that `work` is of `run`, for a key whose rule has
-- to start or go on, and that the top waits for it
pub record HandedOut {R K P V : Type 0} (m : Machine K P V) (rules : R) (inputs : Table) (table : K → Option (Memo K V)) (run : ℕ) (top : Top K P)
    (work : WorkView R K P V) : Type 0 where
  pub rules_same : work.done.rules ≡ rules
  pub run_same : work.done.run ≡ run
  pub started : work.done.started ≡ inputs.revision
  pub files : work.done.files ≡ inputs.files
  pub out : out_at top ≡ Some (out_of work.done)
  pub why : HasWhy (IsWhy m inputs.history inputs.revision (HasIn table) work.done.key) work.done.front work.why

-- `ClosesRing order m inputs table claims run top ring` is that `top` is a frame of `run` that waits
-- for a key, and that `ring` is the ring that closes if `run` waits for it
pub record ClosesRing {K P V : Type 0} (order : K → K → Ordering) (m : Machine K P V) (inputs : Table) (table : K → Option (Memo K V)) (claims : List (ℕ × Hold K))
    (run : ℕ) (top : Top K P) (ring : List K) : Type 0 where
  pub frame : Frame K P
  pub is_top : top ≡ At frame
  pub next : K
  pub awaits : Awaits order m inputs.history inputs.revision (HasIn table) frame.key frame.stage next
  pub closed : IsClosed order claims run next ring

-- `Enters order claims run next answer before after top` is that `run`, whose frames were `before`,
-- claimed `next`, a key of none of them, which is the key of its top over `before`; or that another run
-- holds it, or that a wait would close a ring, or that an allocation failed. Then the last of `before`
-- is the top again.
abbrev pub Enters : {W E K P : Type 0} → (K → K → Ordering) → List (ℕ × Hold K) → ℕ → K → Result (Looked W K) E → (before after : List (Frame K P)) → Top K P → Type 0
Enters order claims run next (Ok (Carry work)) before after top = ⊥
Enters order claims run next (Ok Stepped) before after top =
    (after ≡ before) × (top ≡ At (record { key = next; stage = Walking 0 })) × ((hold_of claims run).wait ≡ None) × (In next (frame_keys before) → ⊥)
Enters order claims run next (Ok (Blocked other)) before after top =
    IsLowered before after top × IsHeldUp claims run other × ((hold_of claims run).wait ≡ Some next)
Enters order claims run next (Ok (Ring ring)) before after top =
    IsLowered before after top × IsClosed order claims run next ring.items × ((hold_of claims run).wait ≡ None)
Enters order claims run next (Err failure) before after top = IsLowered before after top × ((hold_of claims run).wait ≡ None)

-- `IsAnswer order m inputs request answer` is that `answer` is that of the key of `request` at the
-- sources now
abbrev pub IsAnswer : {K P V : Type 0} → (K → K → Ordering) → Machine K P V → Table → Request K → Answer K V → Type 0
IsAnswer {K} order m inputs request answer = (key : K) × (request.want ≡ Demand key) × Means (over order m inputs.files) key answer

-- `IsStale m now Has request` is that the key of `request` is not up to date
abbrev pub IsStale : {K P V : Type 0} → Machine K P V → ℕ → (K → Memo K V → Type 0) → Request K → Type 0
IsStale {K} m now Has request = (key : K) → request.want ≡ Demand key → IsUpToDate m now Has key → ⊥

-- `HasLooked order machine inputs memos claims run top looked` is that a look at `run` came to `looked`.
-- It handed out work, or the run went on, or another run holds the key that it needs, or a wait for
-- that key would close a ring. `memos` are those before the look, `claims` and `top` those after it.
abbrev pub HasLooked : {R K P V : Type 0} → (K → K → Ordering) → (R → Machine K P V) → Table → View R K V → List (ℕ × Hold K) → ℕ → Top K P → Looked (WorkView R K P V) K → Type 0
HasLooked order machine inputs memos claims run top (Carry work) = HandedOut (machine memos.rules) memos.rules inputs (memo_at order memos.places) run top work
HasLooked order machine inputs memos claims run top Stepped = out_at top ≡ None
HasLooked order machine inputs memos claims run top (Blocked other) = (out_at top ≡ None) × IsHeldUp claims run other
HasLooked order machine inputs memos claims run top (Ring ring) =
    (out_at top ≡ None) × ClosesRing order (machine memos.rules) inputs (memo_at order memos.places) claims run top ring.items

-- `RunsKept order m inputs table claims runs` is what holds of `runs` and their `claims` between any
-- two steps
pub record RunsKept {K P V : Type 0} (order : K → K → Ordering) (m : Machine K P V) (inputs : Table) (table : K → Option (Memo K V)) (claims : List (ℕ × Hold K))
    (runs : List (Place (RunView K P))) : Type 0 where
  -- each run holds the keys of its frames
  pub claimed : AreClaimed claims runs
  -- the frames of a current run are in order
  pub current : (r : ℕ) (run : RunView K P) → found runs r ≡ Some run → run.started ≡ inputs.revision → RunKept order m inputs table run
  -- no key that a run holds is up to date
  pub stale : (r : ℕ) (k : K) → Holds claims r k → IsUpToDate m inputs.revision (HasIn table) k → ⊥
  -- the top of a current run waits for the key for which the run waits
  pub waits : (r : ℕ) (run : RunView K P) → found runs r ≡ Some run → run.started ≡ inputs.revision → WaitStands order m inputs table claims r run.top
  -- a run waits for a run that started no later
  pub no_later : (r s : ℕ) (a b : RunView K P) → RunWaitsFor claims r s → found runs r ≡ Some a → found runs s ≡ Some b → b.started ≤ a.started
