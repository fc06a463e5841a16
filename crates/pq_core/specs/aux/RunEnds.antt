-- Auxiliary: the one end of a run, for each cause.
use Rattle.std.specs.Prelude.{ℕ, ◌≡◌, ◌⊎◌, ◌<◌, List, Some, None}
use Rattle.std.specs.declared.cmp.Ordering.{Ordering}
use Rattle.pq_inputs.specs.Sources.{Table}
use Rattle.pq_rules.specs.Turns.{Machine}
use Rattle.pq_rules.specs.declared.turn.Answer.{Answer}
use Rattle.pq_claims.specs.Claims.{hold_of}
use Rattle.pq_core.specs.Points.{Point, point_now}
use Rattle.pq_core.specs.Ledger.{Ledger, WasStarved, WasWithdrawn}
use Rattle.pq_core.specs.Moves.{RunAt, Runs, GoesOn, AnswersWith, Stops, ended}
use Rattle.pq_core.specs.Stores.{StoreView}
use Rattle.pq_core.specs.Starts.{Log, log_end}
use Rattle.pq_core.specs.Replies.{ReplyView}
use Rattle.pq_core.specs.Truth.{IsTrueReply}
use Rattle.pq_core.specs.aux.Rising.{found}
use Rattle.pq_core.specs.aux.Runs.{RunView, IsAnswer}
use Rattle.pq_core.specs.Accounts.{AccountView}
use Rattle.pq_core.specs.declared.store.rising.Place.{Place}
use Rattle.pq_core.specs.declared.runs.frames.Top.TheVariants.{Empty}
use Rattle.pq_core.specs.declared.steps.run_end.Ending.{Ending}
use Rattle.pq_core.specs.declared.steps.run_end.Ending.TheVariants.{Stopped, Answered, Starved, Withdrawn}
use Rattle.pq_core.specs.declared.values.outcome.Outcome.{Outcome}
use Rattle.pq_core.specs.declared.values.outcome.Outcome.TheVariants.{Cancelled, Answered as OutcomeAnswered, Starved as OutcomeStarved, Withdrawn as OutcomeWithdrawn}

-- `IsLateFor inputs accounts run` is that `run` was overtaken: an edit was accepted since its start, or
-- its client was closed
abbrev pub IsLateFor : {K P V M : Type 0} → Table → List (Place (AccountView K V M)) → RunView K P → Type 0
IsLateFor inputs accounts run = (run.started < inputs.revision) ⊎ (found accounts run.client ≡ None)

-- `FitsEnd order m point inputs accounts run ending` is that `run` may end as `ending`: it is stopped
-- only where it was overtaken; it answers only where it was not, with the answer of its key at the
-- sources now and a stamp of the revision now
abbrev pub FitsEnd : {K P V M : Type 0} → (K → K → Ordering) → Machine K P V → (M → Point) → Table → List (Place (AccountView K V M)) → RunView K P → Ending K V M → Type 0
FitsEnd order m point inputs accounts run Stopped = IsLateFor inputs accounts run
FitsEnd order m point inputs accounts run (Answered answer stamp) =
    (IsLateFor inputs accounts run → ⊥) × (run.top ≡ Empty) × IsAnswer order m inputs run.request answer × (point stamp ≡ point_now inputs)
FitsEnd order m point inputs accounts run Starved = Unit {0}
FitsEnd order m point inputs accounts run Withdrawn = Unit {0}

-- `MayEnd order m point store r ending` is that `r` is a run of `store` that may end as `ending`
abbrev pub MayEnd : {R K P V M : Type 0} → (K → K → Ordering) → Machine K P V → (M → Point) → StoreView R K P V M → ℕ → Ending K V M → Type 0
MayEnd {R} {K} {P} order m point store r ending =
    (run : RunView K P) × (found store.runs.items r ≡ Some run) × FitsEnd order m point store.inputs store.accounts.items run ending

-- `outcome_by ending started now` is the outcome of a run that was started at the revision `started`
-- and ends as `ending` at the revision `now`
abbrev pub outcome_by : {K V M : Type 0} → Ending K V M → (started now : ℕ) → Outcome K V M
outcome_by Stopped started now = Cancelled started now
outcome_by (Answered answer stamp) started now = OutcomeAnswered answer stamp
outcome_by Starved started now = OutcomeStarved
outcome_by Withdrawn started now = OutcomeWithdrawn

-- `reply_by run ending now` is the reply to the request of `run`, which ends as `ending` at the revision
-- `now`
abbrev pub reply_by : {K P V M : Type 0} → RunView K P → Ending K V M → ℕ → ReplyView K V M
reply_by run ending now = record { client = run.client; number = run.number; request = run.request; revision = now; outcome = outcome_by ending run.started now }

-- `IsReplyDue order machine point now accounts run ending` is that the reply to the request of `run`,
-- which ends as `ending` at the revision `now`, is true by the rules of some rule set, or that its client
-- has no account
abbrev pub IsReplyDue : {R K P V M : Type 0} → (K → K → Ordering) → (R → Machine K P V) → (M → Point) → ℕ → List (Place (AccountView K V M)) → RunView K P → Ending K V M → Type 0
IsReplyDue {R} order machine point now accounts run Stopped = R × ((run.started < now) ⊎ (found accounts run.client ≡ None))
IsReplyDue {R} order machine point now accounts run (Answered answer stamp) = R × IsTrueReply order machine point (reply_by run (Answered answer stamp) now)
IsReplyDue {R} order machine point now accounts run Starved = R × Unit {0}
IsReplyDue {R} order machine point now accounts run Withdrawn = R × Unit {0}

-- `EndsBy means run ending l m` is that `run` ends as `ending`: it is stopped, it answers, or it is
-- starved or withdrawn
abbrev pub EndsBy : {K V M O : Type 0} → (M → Point → K → Answer K V → Type 0) → ℕ → Ending K V M → Ledger K V M O → Ledger K V M O → Type 0
EndsBy means run Stopped l m = Stops l run m
EndsBy {K} {V} {M} {O} means run (Answered answer stamp) l m =
    (at : RunAt K V M O) × GoesOn l run at
    × ((said : Answer K V) × (mark : M) × AnswersWith means l at said mark × (m ≡ ended l at at.entry.fate (OutcomeAnswered said mark)))
EndsBy {K} {V} {M} {O} means run Starved l m = (at : RunAt K V M O) × Runs l run at × (m ≡ ended l at WasStarved OutcomeStarved)
EndsBy {K} {V} {M} {O} means run Withdrawn l m = (at : RunAt K V M O) × Runs l run at × (m ≡ ended l at WasWithdrawn OutcomeWithdrawn)

-- `log_ended_in store run ending log` is `log` after `run` ended as `ending`: one that was stopped,
-- starved or withdrawn adds the keys that it held to those lost. `store` is the store before.
abbrev pub log_ended_in : {R K P V M : Type 0} → StoreView R K P V M → ℕ → Ending K V M → Log K → Log K
log_ended_in store run Stopped log = log_end run (found store.runs.items run) (hold_of store.claims run).keys log
log_ended_in store run (Answered answer stamp) log = log
log_ended_in store run Starved log = log_end run (found store.runs.items run) (hold_of store.claims run).keys log
log_ended_in store run Withdrawn log = log_end run (found store.runs.items run) (hold_of store.claims run).keys log
