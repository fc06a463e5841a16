-- How often a rule is started: at most once in a revision, and once more for each run that was
-- stopped, starved or withdrawn while it held the key.
--
-- A log has the rules that were started, and the keys that were held by the runs that were stopped,
-- starved or withdrawn. No core keeps a log: contracts alone speak of it. What a call adds to it is a
-- function of its answer and of the core before the call (`log_moved`, `log_starved`,
-- `log_withdrawn`); all other calls add nothing, an edit that ends every run among them, since no rule
-- was started at its revision. The empty log is counted for a new core, and each call keeps that
-- (`IsCountedFor`). So the bound of `IsCounted` holds of the log of every list of calls. The same
-- holds of a store (`log_moved_in`, `log_starved_in`, `log_withdrawn_in`, `IsCountedIn`), and a core's
-- is that of its store.
use Rattle.std.specs.Prelude.{ℕ, ◌+◌, ◌≤◌, ◌⊎◌, ◌&&◌, Bool, true, false, cond, eqb, List, [], ◌∷◌, ◌++◌, map, Option, Some, None, Result, Ok, Err}
use Rattle.std.specs.Ordering.{is_eq, int_eq}
use Rattle.std.specs.Str.{bytes_eq}
use Rattle.std.specs.declared.cmp.Ordering.{Ordering}
use Rattle.pq_rules.specs.Relations.{Each}
use Rattle.pq_rules.specs.Turns.{Machine}
use Rattle.pq_memo.specs.declared.table.look.Why.{Why}
use Rattle.pq_memo.specs.Look.{IsUpToDate}
use Rattle.pq_memo.specs.Table.{memo_at, HasIn}
use Rattle.pq_claims.specs.Claims.{Hold, hold_of}
use Rattle.pq_core.specs.Works.{WorkView}
use Rattle.pq_core.specs.Stores.{StoreView}
use Rattle.pq_core.specs.Cores.{CoreView}
use Rattle.pq_core.specs.declared.values.label.Label.{Label}
use Rattle.pq_core.specs.declared.values.label.Label.TheVariants.{None as NoLabel, Unsigned, Negative, Text}
use Rattle.pq_core.specs.declared.values.fault.WithdrawFault.{WithdrawFault}
use Rattle.pq_core.specs.declared.store.rising.Place.{Place}
use Rattle.pq_core.specs.declared.values.moves.Move.{Move}
use Rattle.pq_core.specs.declared.values.moves.Move.TheVariants.{Carry, Blocked, Stepped, Answered, Stopped}
use Rattle.pq_core.specs.aux.Rising.{found}
use Rattle.pq_core.specs.aux.Runs.{RunView}
use Rattle.pq_core.specs.aux.Begun.{IsBegunIn}

-- `Event K` is that `run`, which was started at `revision`, started the rule of `key`, or held `key`
-- when it was stopped, starved or withdrawn
pub record Event (K : Type 0) : Type 0 where
  pub run : ℕ
  pub key : K
  pub revision : ℕ

-- `Log K` is the rules that were started, and the keys that were held by the runs that were stopped,
-- starved or withdrawn, in the order of events
pub record Log (K : Type 0) : Type 0 where
  pub starts : List (Event K)
  pub lost : List (Event K)

-- `no_log` is the log before any call
abbrev pub no_log : {K : Type 0} → Log K
no_log = record { starts = []; lost = [] }

-- ---- what a call adds

-- `events_of run revision keys` is an event of `run` for each of `keys`
abbrev pub events_of : {K : Type 0} → ℕ → ℕ → List K → List (Event K)
events_of run revision keys = map (λ k. record { run = run; key = k; revision = revision }) keys

-- `log_work event why log` is `log` after work was handed out: if the work names a cause `why`, its
-- rule is started, and `event` is among the starts
abbrev pub log_work : {K : Type 0} → Event K → Option (Why K) → Log K → Log K
log_work event None log = log
log_work event (Some why) log = record { starts = log.starts ++ event ∷ []; lost = log.lost }

-- `log_end run there keys log` is `log` after the end of `run`, which was `there` and held `keys`:
-- these are lost
abbrev pub log_end : {K P : Type 0} → ℕ → Option (RunView K P) → List K → Log K → Log K
log_end run None keys log = log
log_end run (Some there) keys log = record { starts = log.starts; lost = log.lost ++ events_of run there.started keys }

-- `log_moved_in store run answer log` is `log` after `run` was looked at, or a result was given to it.
-- `store` is the store before the call. Work that starts a rule adds a start at the revision now. A
-- run that is stopped adds the keys that it held to those lost, at the revision of its start.
abbrev pub log_moved_in : {R K P V M E : Type 0} → StoreView R K P V M → ℕ → Result (Move (WorkView R K P V)) E → Log K → Log K
log_moved_in store run (Ok (Carry work)) log = log_work (record { run = run; key = work.done.key; revision = store.inputs.revision }) work.why log
log_moved_in store run (Ok (Blocked other)) log = log
log_moved_in store run (Ok Stepped) log = log
log_moved_in store run (Ok Answered) log = log
log_moved_in store run (Ok Stopped) log = log_end run (found store.runs.items run) (hold_of store.claims run).keys log
log_moved_in store run (Err fault) log = log

-- `log_starved_in store run answer log` is `log` after `run` was starved, if the answer is that it was
-- a run. `store` is the store before the call.
abbrev pub log_starved_in : {R K P V M : Type 0} → StoreView R K P V M → ℕ → Bool → Log K → Log K
log_starved_in store run true log = log_end run (found store.runs.items run) (hold_of store.claims run).keys log
log_starved_in store run false log = log

-- `same_label a b` is whether the labels `a` and `b` are the same
abbrev pub same_label : Label → Label → Bool
same_label NoLabel NoLabel = true
same_label NoLabel (Unsigned n) = false
same_label NoLabel (Negative n) = false
same_label NoLabel (Text text) = false
same_label (Unsigned n) NoLabel = false
same_label (Unsigned n) (Unsigned o) = eqb n o
same_label (Unsigned n) (Negative o) = false
same_label (Unsigned n) (Text text) = false
same_label (Negative n) NoLabel = false
same_label (Negative n) (Unsigned o) = false
same_label (Negative n) (Negative o) = int_eq n o
same_label (Negative n) (Text text) = false
same_label (Text text) NoLabel = false
same_label (Text text) (Unsigned n) = false
same_label (Text text) (Negative n) = false
same_label (Text text) (Text other) = bytes_eq text other

-- `lost_at claims c label run there` is the keys that `run` held, which was `there`, if it was of a
-- request of the client `c` with the label `label`
abbrev pub lost_at : {K P : Type 0} → List (ℕ × Hold K) → ℕ → Label → ℕ → Option (RunView K P) → List (Event K)
lost_at claims c label run None = []
lost_at claims c label run (Some there) =
    cond (eqb there.client c && same_label there.request.label label) (events_of run there.started (hold_of claims run).keys) []

-- `lost_among claims c label runs` is the keys that the runs of the requests of the client `c` with the
-- label `label` held, of all `runs`
unfoldable pub lost_among : {K P : Type 0} → List (ℕ × Hold K) → ℕ → Label → List (Place (RunView K P)) → List (Event K)
lost_among claims c label [] = []
lost_among claims c label (p ∷ runs) = lost_at claims c label p.number p.value ++ lost_among claims c label runs

-- `log_lost_in store c label log` is `log` with the keys among those lost that the runs of the requests of
-- the client `c` with the label `label` hold
abbrev pub log_lost_in : {R K P V M : Type 0} → StoreView R K P V M → ℕ → Label → Log K → Log K
log_lost_in store c label log = record { starts = log.starts; lost = log.lost ++ lost_among store.claims c label store.runs.items }

-- `log_withdrawn_in store c label answer log` is `log` after the client `c` withdrew its requests with
-- the label `label`, if it was not refused: the keys that their runs held are lost. `store` is the
-- store before the call.
abbrev pub log_withdrawn_in : {R K P V M : Type 0} → StoreView R K P V M → ℕ → Label → Result Bool WithdrawFault → Log K → Log K
log_withdrawn_in store c label (Ok answer) log = log_lost_in store c label log
log_withdrawn_in store c label (Err fault) log = log

-- `log_moved core run answer log` is `log` after `run` was looked at, or a result was given to it.
-- `core` is the core before the call.
abbrev pub log_moved : {R K P V M O E : Type 0} → CoreView R K P V M O → ℕ → Result (Move (WorkView R K P V)) E → Log K → Log K
log_moved core run answer log = log_moved_in core.store run answer log

-- `log_starved core run answer log` is `log` after `run` was starved, if the answer is that it was a
-- run. `core` is the core before the call.
abbrev pub log_starved : {R K P V M O : Type 0} → CoreView R K P V M O → ℕ → Bool → Log K → Log K
log_starved core run answer log = log_starved_in core.store run answer log

-- `log_withdrawn core c label answer log` is `log` after the client `c` withdrew its requests with the
-- label `label`, if it was not refused. `core` is the core before the call.
abbrev pub log_withdrawn : {R K P V M O : Type 0} → CoreView R K P V M O → ℕ → Label → Result Bool WithdrawFault → Log K → Log K
log_withdrawn core c label answer log = log_withdrawn_in core.store c label answer log

-- ---- the bound

-- `one_if test` is 1 if `test` is true, else 0
abbrev pub one_if : Bool → ℕ
one_if true = 1
one_if false = 0

-- `count order revision key events` is how many of `events` are of `key` and of a run that was
-- started at `revision`
unfoldable pub count : {K : Type 0} → (K → K → Ordering) → ℕ → K → List (Event K) → ℕ
count order revision key [] = 0
count order revision key (e ∷ es) = one_if (is_eq (order key e.key) && eqb e.revision revision) + count order revision key es

-- `IsCounted order now taken log` is that in each revision a key's rule was started once at most,
-- and once more for each run that was stopped, starved or withdrawn while it held the key; and that
-- the rule of a key that is not `taken` in the revision `now` may be started once more
pub record IsCounted {K : Type 0} (order : K → K → Ordering) (now : ℕ) (taken : K → Type 0) (log : Log K) : Type 0 where
  pub earlier : Each (λ e. e.revision ≤ now) log.starts
  pub each : (revision : ℕ) (key : K) → count order revision key log.starts ≤ count order revision key log.lost + 1
  pub latest : (key : K) → (count order now key log.starts ≤ count order now key log.lost) ⊎ taken key

-- `IsTakenIn order m store k` is that `k` is up to date now, or that a run that was started at the
-- revision now has begun the rule of `k`
abbrev pub IsTakenIn : {R K P V M : Type 0} → (K → K → Ordering) → Machine K P V → StoreView R K P V M → K → Type 0
IsTakenIn order m store k =
    IsUpToDate m store.inputs.revision (HasIn (memo_at order store.places)) k ⊎ IsBegunIn store.inputs.revision store.runs.items k

-- `IsCountedIn order m store log` is that the starts of `log` are bounded, where the last call left
-- `store`
abbrev pub IsCountedIn : {R K P V M : Type 0} → (K → K → Ordering) → Machine K P V → StoreView R K P V M → Log K → Type 0
IsCountedIn order m store log = IsCounted order store.inputs.revision (λ k. IsTakenIn order m store k) log

-- `IsCountedFor order m core log` is that the starts of `log` are bounded, where the last call left
-- `core`
abbrev pub IsCountedFor : {R K P V M O : Type 0} → (K → K → Ordering) → Machine K P V → CoreView R K P V M O → Log K → Type 0
IsCountedFor order m core log = IsCountedIn order m core.store log
