-- Auxiliary: what a run is at between two calls, and one step of it in its store.
use Rattle.std.specs.Prelude.{ℕ, ◌≡◌, ◌==◌, if◌then◌else◌, Some, None, IsSome, Ok, Err, Result}
use Rattle.std.specs.declared.cmp.Ordering.{Ordering}
use Rattle.pq_rules.specs.Turns.{Machine}
use Rattle.pq_memo.specs.Table.{memo_at, HasIn}
use Rattle.pq_core.specs.Points.{Point, point_now}
use Rattle.pq_core.specs.Stores.{StoreView, NamesCause}
use Rattle.pq_core.specs.Starts.{Log, log_work}
use Rattle.pq_core.specs.Works.{WorkView}
use Rattle.pq_core.specs.aux.Rising.{found}
use Rattle.pq_core.specs.aux.Runs.{RunView, IsAnswer, IsStale, IsSameRun, IsHeldUp, ClosesRing, HandedOut, Renewed, out_at}
use Rattle.pq_core.specs.aux.Begun.{KeepsBegun}
use Rattle.pq_core.specs.aux.RunEnds.{IsLateFor}
use Rattle.pq_core.specs.declared.runs.frames.Top.TheVariants.{Empty}
use Rattle.pq_core.specs.declared.runs.frames.Looked.{Looked}
use Rattle.pq_core.specs.declared.runs.frames.Looked.TheVariants.{Carry, Stepped, Blocked, Ring}
use Rattle.pq_core.specs.declared.steps.run_state.RunState.{RunState}
use Rattle.pq_core.specs.declared.steps.run_state.RunState.TheVariants.{Gone, Overtaken, Away, Answered, Ready}

-- `IsLate store run` is that `run` was overtaken: an edit was accepted since its start, or its client
-- was closed
abbrev pub IsLate : {R K P V M : Type 0} → StoreView R K P V M → RunView K P → Type 0
IsLate store run = IsLateFor store.inputs store.accounts.items run

-- `IsCurrentRun store r run` is that `run` is the run `r` of `store`, and was not overtaken
pub record IsCurrentRun {R K P V M : Type 0} (store : StoreView R K P V M) (r : ℕ) (run : RunView K P) : Type 0 where
  pub here : found store.runs.items r ≡ Some run
  pub early : IsLate store run → ⊥

-- `IsReady order m store r run` is that `run` is the run `r` of `store`, is current and has no work out;
-- and that its key is not up to date, if it has no frame
pub record IsReady {R K P V M : Type 0} (order : K → K → Ordering) (m : Machine K P V) (store : StoreView R K P V M) (r : ℕ) (run : RunView K P) : Type 0 where
  pub current : IsCurrentRun store r run
  pub idle : out_at run.top ≡ None
  pub stale : run.top ≡ Empty → IsStale m store.inputs.revision (HasIn (memo_at order store.places)) run.request

-- `IsAt order m point store r state` is that the run `r` of `store` is in `state`
abbrev pub IsAt : {R K P V M : Type 0} → (K → K → Ordering) → Machine K P V → (M → Point) → StoreView R K P V M → ℕ → RunState K V M → Type 0
IsAt order m point store r Gone = found store.runs.items r ≡ None
IsAt {R} {K} {P} order m point store r Overtaken = (run : RunView K P) × (found store.runs.items r ≡ Some run) × IsLate store run
IsAt {R} {K} {P} order m point store r Away = (run : RunView K P) × IsCurrentRun store r run × IsSome (out_at run.top)
IsAt {R} {K} {P} order m point store r (Answered answer stamp) =
    (run : RunView K P) × IsCurrentRun store r run × (run.top ≡ Empty) × IsAnswer order m store.inputs run.request answer × (point stamp ≡ point_now store.inputs)
IsAt {R} {K} {P} order m point store r (Ready stamp) = (run : RunView K P) × IsReady order m store r run × (point stamp ≡ point_now store.inputs)

-- `SameClients before after` is that `after` is `before` but for memos, runs and claims
pub record SameClients {R K P V M : Type 0} (before after : StoreView R K P V M) : Type 0 where
  pub rules : after.rules ≡ before.rules
  pub inputs : after.inputs ≡ before.inputs
  pub accounts : after.accounts ≡ before.accounts
  pub opened : after.opened ≡ before.opened
  pub clients : after.clients ≡ before.clients
  pub started : after.started ≡ before.started

-- `Steps order m before r after` is that the run `r` took a step, which led from `before` to `after`
pub record Steps {R K P V M : Type 0} (order : K → K → Ordering) (m : Machine K P V) (before : StoreView R K P V M) (r : ℕ) (after : StoreView R K P V M) : Type 0 where
  pub was : RunView K P
  pub current : IsCurrentRun before r was
  pub now : was.started ≡ before.inputs.revision
  pub run : RunView K P
  pub set : (k : ℕ) → found after.runs.items k ≡ (if k == r then Some run else found before.runs.items k)
  pub same : IsSameRun was run
  pub begun : KeepsBegun m before.inputs.revision (memo_at order after.places) was.stack was.top run.stack run.top
  pub renewed : Renewed m before.inputs.revision (memo_at order before.places) (memo_at order after.places)
  pub clients : SameClients before after

-- `StepsTo order m before r after looked` is that the step came to `looked`: it hands out work, with its
-- cause; or it goes on; or it is held up by another run, which exists; or a ring closes
abbrev pub StepsTo : {R K P V M : Type 0} → (K → K → Ordering) → Machine K P V → StoreView R K P V M → ℕ → StoreView R K P V M → Looked (WorkView R K P V) K → Type 0
StepsTo order m before r after (Carry work) =
    (s : Steps order m before r after) × HandedOut m before.rules before.inputs (memo_at order before.places) r s.run.top work × NamesCause order m before work
StepsTo order m before r after Stepped = (s : Steps order m before r after) × (out_at s.run.top ≡ None)
StepsTo {R} {K} {P} order m before r after (Blocked other) =
    (s : Steps order m before r after) × (out_at s.run.top ≡ None) × IsHeldUp after.claims r other × ((there : RunView K P) × (found before.runs.items other ≡ Some there))
StepsTo order m before r after (Ring ring) =
    (s : Steps order m before r after) × (out_at s.run.top ≡ None) × ClosesRing order m before.inputs (memo_at order after.places) after.claims r s.run.top ring.items

-- `log_stepped store run answer log` is `log` after a step of `run` that came to `answer`. `store` is the
-- store before. Work that starts a rule adds a start at the revision now.
abbrev pub log_stepped : {R K P V M E : Type 0} → StoreView R K P V M → ℕ → Result (Looked (WorkView R K P V) K) E → Log K → Log K
log_stepped store run (Ok (Carry work)) log = log_work (record { run = run; key = work.done.key; revision = store.inputs.revision }) work.why log
log_stepped store run (Ok Stepped) log = log
log_stepped store run (Ok (Blocked other)) log = log
log_stepped store run (Ok (Ring ring)) log = log
log_stepped store run (Err failure) log = log
