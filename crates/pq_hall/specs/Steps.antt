-- What a post and a step of a run do to the store: each is one call of it, and answers as that call.
use Rattle.std.specs.Prelude.{ℕ, ◌≡◌, ◌<◌, ◌⊎◌, Bool, Option, Some, Result, Ok, Err, true, false}
use Rattle.std.specs.declared.cmp.Ordering.{Ordering}
use Rattle.pq_inputs.specs.Sources.{Table}
use Rattle.pq_inputs.specs.declared.fault.InputFault.{InputFault}
use Rattle.pq_inputs.specs.declared.fault.InputFault.TheVariants.{TextTooLong, TooManyFiles, RevisionsUsedUp, Memory as NoMemory}
use Rattle.pq_inputs.specs.Refusal.{last_revision}
use Rattle.pq_rules.specs.Turns.{Machine}
use Rattle.pq_core.specs.Changes.{ChangeView}
use Rattle.pq_core.specs.Points.{Point, point_now}
use Rattle.pq_core.specs.Works.{DoneView, WorkView}
use Rattle.pq_core.specs.Ledger.{Ledger}
use Rattle.pq_core.specs.Moves.{changed, Accepts, Edits, Withdraws, Looks, Gives, Starves}
use Rattle.pq_core.specs.Starts.{Log, IsCountedIn, log_lost_in, log_moved_in, log_starved_in}
use Rattle.pq_core.specs.Stores.{StoreView, Goes}
use Rattle.pq_core.specs.Told.{Told, told_puts}
use Rattle.pq_core.specs.declared.values.label.Label.{Label}
use Rattle.pq_core.specs.declared.values.request.Request.{Request}
use Rattle.pq_core.specs.declared.values.fault.AcceptFault.{AcceptFault}
use Rattle.pq_core.specs.declared.values.fault.AcceptFault.TheVariants.{NoClient as AcceptNoClient, Closed as AcceptClosed, WindowFull, Memory as AcceptMemory}
use Rattle.pq_core.specs.declared.values.fault.AcceptRefused.{AcceptRefused}
use Rattle.pq_core.specs.declared.values.fault.EditFault.{EditFault}
use Rattle.pq_core.specs.declared.values.fault.EditFault.TheVariants.{NoClient as EditNoClient, Closed as EditClosed, BadRange, Input}
use Rattle.pq_core.specs.declared.values.fault.EditRefused.{EditRefused}
use Rattle.pq_core.specs.declared.values.fault.WithdrawFault.{WithdrawFault}
use Rattle.pq_core.specs.declared.values.fault.LookFault.{LookFault}
use Rattle.pq_core.specs.declared.values.fault.LookFault.TheVariants.{NoRun, Memory as LookMemory}
use Rattle.pq_core.specs.declared.values.fault.GiveFault.TheVariants.{NotThisRun, Memory as GiveMemory}
use Rattle.pq_core.specs.declared.values.fault.GiveRefused.{GiveRefused}
use Rattle.pq_core.specs.declared.values.moves.Move.{Move}
use Rattle.pq_mail.specs.declared.post.Post.{Post}
use Rattle.pq_mail.specs.declared.post.Post.TheVariants.{Ask, Edit, Withdraw, End}
use Rattle.pq_hall.specs.declared.fault.HallFault.{HallFault}
use Rattle.pq_hall.specs.declared.fault.HallFault.TheVariants.{Closed, Edit as EditFailed, Memory}
use Rattle.pq_hall.specs.declared.posting.Moved.{Moved}
use Rattle.pq_hall.specs.declared.posting.Moved.TheVariants.{Accepted, Edited, Withdrawn, Ended, Later}
use Rattle.pq_hall.specs.declared.running.Hand.{Hand}
use Rattle.pq_hall.specs.declared.running.Hand.TheVariants.{Look, Made, Unmade}
use Rattle.pq_hall.specs.declared.running.Next.{Next}
use Rattle.pq_hall.specs.declared.running.Next.TheVariants.{Moved as RunMoved, Starved, Over}

-- ---- posts

-- `IsStampFor point inputs post stamp` is that an edit comes with the stamp of the revision, and of the
-- sources, that it makes of `inputs`. At the last revision, where each edit is refused, it is any stamp.
abbrev pub IsStampFor : {K M : Type 0} → (M → Point) → Table → Post K → Option M → Type 0
IsStampFor point inputs (Ask request) stamp = Unit {0}
IsStampFor {K} {M} point inputs (Edit change) stamp =
    (s : M) × (stamp ≡ Some s) × (inputs.revision < last_revision → point s ≡ point_now (changed inputs change))
IsStampFor point inputs (Withdraw label) stamp = Unit {0}
IsStampFor point inputs End stamp = Unit {0}

-- `not_asked fault request` is what `post_step` answers where `accept` refuses `request` for `fault`
abbrev pub not_asked : {K : Type 0} → AcceptFault → Request K → Result (Moved K) HallFault
not_asked AcceptNoClient request = Err Closed
not_asked AcceptClosed request = Err Closed
not_asked WindowFull request = Ok (Later (Ask request))
not_asked AcceptMemory request = Err Memory

-- `asked answer` is what `post_step` answers where `accept` answers `answer`
abbrev pub asked : {K : Type 0} → Result ℕ (AcceptRefused K) → Result (Moved K) HallFault
asked (Ok n) = Ok (Accepted n)
asked (Err refused) = not_asked refused.fault refused.request

-- `not_input fault` is what `post_step` answers where the inputs refuse an edit for `fault`
abbrev pub not_input : {K : Type 0} → InputFault → Result (Moved K) HallFault
not_input TextTooLong = Err (EditFailed (Input TextTooLong))
not_input TooManyFiles = Err (EditFailed (Input TooManyFiles))
not_input RevisionsUsedUp = Err (EditFailed (Input RevisionsUsedUp))
not_input NoMemory = Err Memory

-- `not_edited fault` is what `post_step` answers where `edit` refuses a change for `fault`
abbrev pub not_edited : {K : Type 0} → EditFault → Result (Moved K) HallFault
not_edited EditNoClient = Err Closed
not_edited EditClosed = Err Closed
not_edited BadRange = Err (EditFailed BadRange)
not_edited (Input fault) = not_input fault

-- `edited answer` is what `post_step` answers where `edit` answers `answer`
abbrev pub edited : {K : Type 0} → Result ℕ EditRefused → Result (Moved K) HallFault
edited (Ok revision) = Ok (Edited revision)
edited (Err refused) = not_edited refused.fault

-- `withdrew answer` is what `post_step` answers where `withdraw` answers `answer`
abbrev pub withdrew : {K : Type 0} → Result Bool WithdrawFault → Result (Moved K) HallFault
withdrew (Ok some) = Ok (Withdrawn some)
withdrew (Err fault) = Err Closed

-- `Posts c post answer l m` is the call that `post` of the client `c` is: `accept` of a request, `edit`
-- of an edit, `withdraw` of a withdrawal, and none at the end of the posts; the answer is that of the
-- call
abbrev pub Posts : {K V M : Type 0} → ℕ → Post K → Result (Moved K) HallFault → Ledger K V M (Told K V M) → Ledger K V M (Told K V M) → Type 0
Posts {K} {V} {M} c (Ask request) answer l m = (called : Result ℕ (AcceptRefused K)) × Accepts told_puts c request called l m × (answer ≡ asked called)
Posts {K} {V} {M} c (Edit change) answer l m = (called : Result ℕ EditRefused) × Edits c change called l m × (answer ≡ edited called)
Posts {K} {V} {M} c (Withdraw label) answer l m = (called : Result Bool WithdrawFault) × Withdraws c label called l m × (answer ≡ withdrew called)
Posts c End answer l m = (answer ≡ Ok Ended) × (m ≡ l)

-- `inputs_posted inputs post answer` is `inputs` after `post`, which was answered so: an edit that made a
-- revision is made, and nothing else changes
abbrev pub inputs_posted : {K : Type 0} → Table → Post K → Result (Moved K) HallFault → Table
inputs_posted inputs (Ask request) answer = inputs
inputs_posted inputs (Edit change) (Ok (Accepted n)) = inputs
inputs_posted inputs (Edit change) (Ok (Edited revision)) = changed inputs change
inputs_posted inputs (Edit change) (Ok (Withdrawn some)) = inputs
inputs_posted inputs (Edit change) (Ok Ended) = inputs
inputs_posted inputs (Edit change) (Ok (Later post)) = inputs
inputs_posted inputs (Edit change) (Err fault) = inputs
inputs_posted inputs (Withdraw label) answer = inputs
inputs_posted inputs End answer = inputs

-- `log_posted store c post answer log` is `log` after `post` of the client `c`, which was answered so: a
-- withdrawal that was made adds the keys that the runs of its requests held to those lost, and nothing
-- else adds to it. `store` is the store before the call.
abbrev pub log_posted : {R K P V M : Type 0} → StoreView R K P V M → ℕ → Post K → Result (Moved K) HallFault → Log K → Log K
log_posted store c (Ask request) answer log = log
log_posted store c (Edit change) answer log = log
log_posted store c (Withdraw label) (Ok moved) log = log_lost_in store c label log
log_posted store c (Withdraw label) (Err fault) log = log
log_posted store c End answer log = log

-- `IsAnswerTo post moved` is that `moved` is an answer to `post`: a request is accepted or comes back, an
-- edit or a withdrawal is made, and the end of the posts ends them
abbrev pub IsAnswerTo : {K : Type 0} → Post K → Moved K → Type 0
IsAnswerTo {K} post (Accepted n) = (request : Request K) × (post ≡ Ask request)
IsAnswerTo post (Edited revision) = (change : ChangeView) × (post ≡ Edit change)
IsAnswerTo post (Withdrawn some) = (label : Label) × (post ≡ Withdraw label)
IsAnswerTo post Ended = post ≡ End
IsAnswerTo post (Later back) = back ≡ post

-- `IsEdited moved` is that an edit was made
abbrev pub IsEdited : {K : Type 0} → Moved K → Type 0
IsEdited (Accepted n) = ⊥
IsEdited (Edited revision) = Unit {0}
IsEdited (Withdrawn some) = ⊥
IsEdited Ended = ⊥
IsEdited (Later post) = ⊥

-- ---- steps of runs

-- `IsHandOf rules run hand` is that `hand` is for a run of `rules`: a result is of these rules, and work
-- that comes back is that of `run`
abbrev pub IsHandOf : {R K P V : Type 0} → R → ℕ → Hand (WorkView R K P V) (DoneView R K P V) → Type 0
IsHandOf rules run Look = Unit {0}
IsHandOf rules run (Made done) = done.rules ≡ rules
IsHandOf rules run (Unmade work) = work.done.run ≡ run

-- `not_this_run done` is that `give` refuses `done`, which is of no work of the run that is out
abbrev pub not_this_run : {D : Type 0} → D → GiveRefused D
not_this_run done = record { fault = NotThisRun; done = done }

-- `no_memory done` is that `give` refuses `done`, since an allocation failed
abbrev pub no_memory : {D : Type 0} → D → GiveRefused D
no_memory done = record { fault = GiveMemory; done = done }

-- `Steps order machine point rules run hand next l m` is the call that `hand` is for `run`, and `next`
-- its answer. `Starved` is that `run` was starved: since an allocation of `look` or `give` failed, which
-- left the ledger as it was; since a result is of the revision now, and its mark is not; or since its
-- work came back. `Over` is that there is no such run, or that the result is not that of its work.
abbrev pub Steps : {R K P V M : Type 0} → (K → K → Ordering) → Machine K P V → (M → Point) → R → ℕ → Hand (WorkView R K P V) (DoneView R K P V) → Next (WorkView R K P V)
    → Ledger K V M (Told K V M) → Ledger K V M (Told K V M) → Type 0
Steps order machine point rules run Look (RunMoved moved) l m = Looks order machine point rules run (Ok moved) l m
Steps order machine point rules run Look Starved l m = Looks order machine point rules run (Err LookMemory) l l × Starves run true l m
Steps order machine point rules run Look Over l m = Looks order machine point rules run (Err NoRun) l m
Steps order machine point rules run (Made done) (RunMoved moved) l m = Gives run done (Ok moved) l m
Steps order machine point rules run (Made done) Starved l m = (Gives run done (Err (no_memory done)) l l ⊎ (done.started ≡ l.inputs.revision)) × Starves run true l m
Steps order machine point rules run (Made done) Over l m = Gives run done (Err (not_this_run done)) l m ⊎ Starves run false l m
Steps order machine point rules run (Unmade work) (RunMoved moved) l m = ⊥
Steps order machine point rules run (Unmade work) Starved l m = Starves run true l m
Steps order machine point rules run (Unmade work) Over l m = Starves run false l m

-- `OnMoved Says next` is that `Says` holds of the move of `next`, if it is one
abbrev pub OnMoved : {W : Type 0} → (Move W → Type 0) → Next W → Type 0
OnMoved Says (RunMoved moved) = Says moved
OnMoved Says Starved = Unit {0}
OnMoved Says Over = Unit {0}

-- `Refuses order machine point before via run hand` is that the store `before` refused the call of `hand`
-- for `run`, since an allocation failed, and became `via`; or that no call was made, and it is `via`: a
-- result of the revision now was not given, or work came back
abbrev pub Refuses : {R K P V M : Type 0} → (K → K → Ordering) → Machine K P V → (M → Point) → StoreView R K P V M → StoreView R K P V M → ℕ → Hand (WorkView R K P V) (DoneView R K P V) → Type 0
Refuses order machine point before via run Look = Goes order machine point before via (Looks order machine point before.rules run (Err LookMemory))
Refuses order machine point before via run (Made done) =
    Goes order machine point before via (Gives run done (Err (no_memory done))) ⊎ ((via ≡ before) × (done.started ≡ before.inputs.revision))
Refuses order machine point before via run (Unmade work) = via ≡ before

-- `CountsStep order machine point before after run hand next log` is that the starts of `log` are bounded
-- after the step, with what the step adds to `log`: what the move adds; or, where `run` was starved, the
-- keys that it held in the store that the refused call left
abbrev pub CountsStep : {R K P V M : Type 0} → (K → K → Ordering) → Machine K P V → (M → Point) → StoreView R K P V M → StoreView R K P V M → ℕ → Hand (WorkView R K P V) (DoneView R K P V) → Next (WorkView R K P V) → Log K → Type 0
CountsStep order machine point before after run hand (RunMoved moved) log = IsCountedIn order machine after (log_moved_in {E = LookFault} before run (Ok moved) log)
CountsStep {R} {K} {P} {V} {M} order machine point before after run hand Starved log =
    (via : StoreView R K P V M) × Refuses order machine point before via run hand × IsCountedIn order machine after (log_starved_in via run true log)
CountsStep order machine point before after run hand Over log = IsCountedIn order machine after log
