-- The step of the world by an event, and the worlds that a list of events leads to.
use Rattle.std.specs.Prelude.{ℕ, ◌≡◌, ◌≤◌, ◌⊎◌, Bool, true, false, List, [], ◌∷◌, ◌++◌, length, slice_get, slice_set, Option, Some, None, Ok, Err, Result}
use Rattle.std.specs.declared.alloc.AllocError.{AllocError}
use Rattle.std.specs.declared.cmp.Ordering.{Ordering}
use Rattle.pq_inputs.specs.declared.fault.InputFault.{InputFault}
use Rattle.pq_inputs.specs.declared.fault.InputFault.TheVariants.{TextTooLong, TooManyFiles, RevisionsUsedUp, Memory as InputMemory}
use Rattle.pq_rules.specs.Turns.{Machine}
use Rattle.pq_core.specs.Points.{Point}
use Rattle.pq_core.specs.Replies.{ReplyView}
use Rattle.pq_core.specs.Works.{DoneView, WorkView}
use Rattle.pq_core.specs.Outboxes.{Listed, taken_front, HasNoRoom, HasLostEnd, TakesNext}
use Rattle.pq_core.specs.Ledger.{Client}
use Rattle.pq_core.specs.RightReply.{answer_by}
use Rattle.pq_core.specs.Moves.{Opens, Accepts, Edits, Withdraws, Starts, Looks, Gives, Starves, Releases, Closes, TakesOut, RunAt, Runs, IsMade, IsOf}
use Rattle.pq_core.specs.declared.values.fault.OpenFault.TheVariants.{TooManyClients}
use Rattle.pq_core.specs.declared.values.fault.OpenRefused.{OpenRefused}
use Rattle.pq_core.specs.declared.values.fault.AcceptFault.{AcceptFault}
use Rattle.pq_core.specs.declared.values.fault.AcceptFault.TheVariants.{NoClient as AcceptNoClient, Closed as AcceptClosed, WindowFull, Memory as AcceptMemory}
use Rattle.pq_core.specs.declared.values.fault.AcceptRefused.{AcceptRefused}
use Rattle.pq_core.specs.declared.values.fault.EditFault.{EditFault}
use Rattle.pq_core.specs.declared.values.fault.EditFault.TheVariants.{NoClient as EditNoClient, Closed as EditClosed, BadRange, Input}
use Rattle.pq_core.specs.declared.values.fault.EditRefused.{EditRefused}
use Rattle.pq_core.specs.declared.values.fault.WithdrawFault.{WithdrawFault}
use Rattle.pq_core.specs.declared.values.fault.LookFault.{LookFault}
use Rattle.pq_core.specs.declared.values.fault.LookFault.TheVariants.{NoRun}
use Rattle.pq_core.specs.declared.values.moves.Move.{Move}
use Rattle.pq_core.specs.declared.values.moves.Released.{Released}
use Rattle.pq_play.specs.World.{World, replies_of, own_point}
use Rattle.pq_play.specs.Headline.{Headline, LeavesClosed}
use Rattle.pq_play.specs.declared.event.Event.{Event}
use Rattle.pq_play.specs.declared.event.Event.TheVariants.{Open, Accept, Edit, Withdraw, Start, Step, Give, Starve, Release, Take, Close}

-- ---- answers but those of an allocation failure

-- `OpenAnswered answer` is that no allocation failed
abbrev pub OpenAnswered : {O : Type 0} → Result ℕ (OpenRefused O) → Type 0
OpenAnswered (Ok c) = Unit {0}
OpenAnswered (Err refused) = refused.fault ≡ TooManyClients

-- `IsAcceptFault fault` is that `fault` is another fault than an allocation failure
abbrev pub IsAcceptFault : AcceptFault → Type 0
IsAcceptFault AcceptNoClient = Unit {0}
IsAcceptFault AcceptClosed = Unit {0}
IsAcceptFault WindowFull = Unit {0}
IsAcceptFault AcceptMemory = ⊥

-- `AcceptAnswered answer` is that no allocation failed
abbrev pub AcceptAnswered : {K : Type 0} → Result ℕ (AcceptRefused K) → Type 0
AcceptAnswered (Ok n) = Unit {0}
AcceptAnswered (Err refused) = IsAcceptFault refused.fault

-- `IsInputFault fault` is that `fault` is another fault than an allocation failure
abbrev pub IsInputFault : InputFault → Type 0
IsInputFault TextTooLong = Unit {0}
IsInputFault TooManyFiles = Unit {0}
IsInputFault RevisionsUsedUp = Unit {0}
IsInputFault InputMemory = ⊥

-- `IsEditFault fault` is that `fault` is another fault than an allocation failure
abbrev pub IsEditFault : EditFault → Type 0
IsEditFault EditNoClient = Unit {0}
IsEditFault EditClosed = Unit {0}
IsEditFault BadRange = Unit {0}
IsEditFault (Input fault) = IsInputFault fault

-- `EditAnswered answer` is that no allocation failed
abbrev pub EditAnswered : Result ℕ EditRefused → Type 0
EditAnswered (Ok revision) = Unit {0}
EditAnswered (Err refused) = IsEditFault refused.fault

-- `LookAnswered answer` is that no allocation failed
abbrev pub LookAnswered : {W : Type 0} → Result (Move W) LookFault → Type 0
LookAnswered (Ok move) = Unit {0}
LookAnswered (Err fault) = fault ≡ NoRun

-- ---- what the clients take

-- `empty_list room` is an outbox into which nothing was put, with room for `room` replies
abbrev pub empty_list : {K V : Type 0} → ℕ → Listed K V Point
empty_list room = record { replies = []; taken = 0; room = room }

-- `taken_opened taken answer` is what the clients have taken after a client was to be opened
abbrev pub taken_opened : {T O : Type 0} → List (List T) → Result ℕ (OpenRefused O) → List (List T)
taken_opened taken (Ok c) = taken ++ [] ∷ []
taken_opened taken (Err refused) = taken

-- `TakesOne c w v` is that the client `c` takes the first reply that was put to it and that it has
-- not taken: out of the core's outbox while it is open, else out of the outbox that came back at
-- its close
pub record TakesOne {K V : Type 0} (c : ℕ) (w v : World K V) : Type 0 where
  pub client : Client K V Point (Listed K V Point)
  pub client_here : slice_get w.ledger.clients c ≡ Some client
  pub taken : List (ReplyView K V Point)
  pub taken_here : slice_get w.taken c ≡ Some taken
  pub after_it : List (ReplyView K V Point)
  pub next : TakesNext (replies_of client.outbox) taken after_it
  pub taken_after : v.taken ≡ slice_set w.taken c after_it
  pub open_so : client.is_open ≡ true → TakesOut {A = AllocError} replies_of taken_front c (Ok true) w.ledger v.ledger
  pub shut_so : client.is_open ≡ false → v.ledger ≡ w.ledger

-- `TakesNone c w v` is that no client has the number `c`, or that it has taken all that was put to
-- it, and that the world stays
pub record TakesNone {K V : Type 0} (c : ℕ) (w v : World K V) : Type 0 where
  pub none : (client : Client K V Point (Listed K V Point)) (taken : List (ReplyView K V Point)) → slice_get w.ledger.clients c ≡ Some client → slice_get w.taken c ≡ Some taken → length (replies_of client.outbox) ≤ length taken
  pub same : v ≡ w

-- ---- giving

-- `GivesOne rules run w v` is that a result of the work that is out of `run` is given, and the run
-- goes on or stops. A result of the revision now is one of `rules` over the sources now
pub record GivesOne {R K V : Type 0} (P : Type 0) (rules : R) (run : ℕ) (w v : World K V) : Type 0 where
  pub done : DoneView R K P V
  pub at : RunAt K V Point (Listed K V Point)
  pub runs : Runs w.ledger run at
  pub is_of : IsOf run at done
  pub made : IsMade rules w.ledger.inputs done
  pub move : Move (WorkView R K P V)
  pub given : Gives run done (Ok move) w.ledger v.ledger
  pub taken_same : v.taken ≡ w.taken

-- `GivesNone run w v` is that no work of `run` is out, and that the world stays
pub record GivesNone {K V : Type 0} (run : ℕ) (w v : World K V) : Type 0 where
  pub none : (at : RunAt K V Point (Listed K V Point)) → Runs w.ledger run at → at.out ≡ None
  pub same : v ≡ w

-- ---- steps

-- `Steps room order machine rules event w v` is that `event` leads from `w` to `v`: the call is
-- made, and it does not answer that an allocation failed. A client is opened with an outbox for
-- `room` replies
abbrev pub Steps : {R K P V : Type 0} → ℕ → (K → K → Ordering) → Machine K P V → R → Event K → World K V → World K V → Type 0
Steps {R} {K} {P} {V} room order machine rules Open w v =
    (answer : Result ℕ (OpenRefused (Listed K V Point))) × OpenAnswered answer × Opens (empty_list room) answer w.ledger v.ledger
    × (v.taken ≡ taken_opened w.taken answer)
Steps {R} {K} {P} {V} room order machine rules (Accept c request) w v =
    (answer : Result ℕ (AcceptRefused K)) × AcceptAnswered answer × Accepts replies_of c request answer w.ledger v.ledger × (v.taken ≡ w.taken)
Steps room order machine rules (Edit c change) w v =
    (answer : Result ℕ EditRefused) × EditAnswered answer × Edits c change answer w.ledger v.ledger × (v.taken ≡ w.taken)
Steps room order machine rules (Withdraw c label) w v =
    (answer : Result Bool WithdrawFault) × Withdraws c label answer w.ledger v.ledger × (v.taken ≡ w.taken)
Steps room order machine rules Start w v = (answer : Option ℕ) × Starts answer w.ledger v.ledger × (v.taken ≡ w.taken)
Steps {R} {K} {P} {V} room order machine rules (Step run) w v =
    (answer : Result (Move (WorkView R K P V)) LookFault) × LookAnswered answer × Looks order machine own_point rules run answer w.ledger v.ledger × (v.taken ≡ w.taken)
Steps {R} {K} {P} {V} room order machine rules (Give run) w v = GivesOne P rules run w v ⊎ GivesNone run w v
Steps room order machine rules (Starve run) w v = (answer : Bool) × Starves run answer w.ledger v.ledger × (v.taken ≡ w.taken)
Steps room order machine rules (Release c) w v =
    (answer : Released) × Releases replies_of taken_front HasNoRoom HasLostEnd c answer w.ledger v.ledger × (v.taken ≡ w.taken)
Steps room order machine rules (Take c) w v = TakesOne c w v ⊎ TakesNone c w v
Steps {R} {K} {P} {V} room order machine rules (Close c) w v =
    (answer : Option (Listed K V Point)) × Closes c answer w.ledger v.ledger × (v.taken ≡ w.taken)

-- `LeadsTo room order machine rules events w v` is that `events` lead from `w` to `v`, one step
-- each. After each event the headline holds, and each client that was closed before it has the same
-- outbox
abbrev pub LeadsTo : {R K P V : Type 0} → ℕ → (K → K → Ordering) → Machine K P V → R → List (Event K) → World K V → World K V → Type 0
LeadsTo room order machine rules [] w v = v ≡ w
LeadsTo {R} {K} {P} {V} room order machine rules (event ∷ events) w v =
    (u : World K V) × Steps room order machine rules event w u × Headline (answer_by order machine own_point) u × LeavesClosed w.ledger u.ledger × LeadsTo room order machine rules events u v
