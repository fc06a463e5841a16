-- What contracts see of a store: its rule set, the places of its memos, its inputs, its claims, and
-- what it keeps of clients and runs; and which ledgers it stands for.
use Rattle.std.specs.Prelude.{ℕ, ◌≡◌, ◌≢◌, ◌⊎◌, ◌-◌, ◌<◌, ◌≤◌, List, length, Option, Some, None}
use Rattle.std.specs.Option.{option_map}
use Rattle.std.specs.declared.cmp.Ordering.{Ordering}
use Rattle.pq_inputs.specs.Sources.{Table}
use Rattle.pq_rules.specs.Turns.{Machine}
use Rattle.pq_memo.specs.Sound.{Memo}
use Rattle.pq_memo.specs.Table.{memo_at, HasIn, KeptOver}
use Rattle.pq_memo.specs.Demand.{NoneLost}
use Rattle.pq_memo.specs.Cause.{IsCause}
use Rattle.pq_claims.specs.Claims.{Hold, WaitsFor}
use Rattle.pq_core.specs.Works.{WorkView, IsWorkOf, HasWhy}
use Rattle.pq_core.specs.declared.values.moves.Move.{Move}
use Rattle.pq_core.specs.declared.values.moves.Move.TheVariants.{Carry, Blocked, Stepped, Answered, Stopped}
use Rattle.pq_core.specs.Points.{Point, point_now}
use Rattle.pq_core.specs.Replies.{ReplyView}
use Rattle.pq_core.specs.Ledger.{Entry, Client, Ledger, IsOpen}
use Rattle.pq_core.specs.Told.{Told, told_puts, IsReadyAt, NoneReadyAt, Tells}
use Rattle.pq_core.specs.RightReply.{answer_by}
use Rattle.pq_core.specs.Lanes.{ReadyView}
use Rattle.pq_core.specs.Accounts.{AccountView, IsStage}
use Rattle.pq_core.specs.declared.store.account.Stage.TheVariants.{Made}
use Rattle.pq_core.specs.declared.store.rising.Place.{Place}
use Rattle.pq_core.specs.aux.Rising.{Slots, found, IsAbove}
use Rattle.pq_core.specs.aux.Accounts.{AccountStands}
use Rattle.pq_core.specs.aux.Runs.{RunView, RunsKept, out_at}
use Rattle.pq_core.specs.aux.Stands.{RunSeen, Fields, Stands}
use Rattle.pq_core.specs.aux.Queue.{IsQueue}

-- `StoreView R K P V M` is a store
pub record StoreView (R K P V M : Type 0) : Type 0 where
  pub rules : R
  pub places : List (K × Option (Memo K V))
  pub inputs : Table
  pub accounts : Slots (AccountView K V M)
  pub opened : ℕ
  pub clients : ℕ
  pub waiting : List (ℕ × ℕ)
  pub runs : Slots (RunView K P)
  pub started : ℕ
  pub claims : List (ℕ × Hold K)

-- `run_seen run` is what the ledger knows of `run`
abbrev pub run_seen : {K P : Type 0} → RunView K P → RunSeen K
run_seen run = record { client = run.client; number = run.number; request = run.request; started = run.started; out = out_at run.top }

-- `Held K P V M` is what a store keeps of inputs, clients and runs
pub record Held (K P V M : Type 0) : Type 0 where
  pub inputs : Table
  pub accounts : List (Place (AccountView K V M))
  pub opened : ℕ
  pub clients : ℕ
  pub runs : List (Place (RunView K P))
  pub started : ℕ

-- `held store` is what `store` keeps of inputs, clients and runs
abbrev pub held : {R K P V M : Type 0} → StoreView R K P V M → Held K P V M
held store = record {
  inputs = store.inputs;
  accounts = store.accounts.items;
  opened = store.opened;
  clients = store.clients;
  runs = store.runs.items;
  started = store.started;
}

-- `fields_of h` is `h` as maps from numbers
abbrev pub fields_of : {K P V M : Type 0} → Held K P V M → Fields K (AccountView K V M)
fields_of h = record {
  inputs = h.inputs;
  seats = λ c. found h.accounts c;
  opened = h.opened;
  clients = h.clients;
  runs = λ r. option_map run_seen (found h.runs r);
  started = h.started;
}

-- `StandsOf order m point puts h l` is that what `h` keeps stands for the ledger `l`
abbrev pub StandsOf : {K P V M O : Type 0} → (K → K → Ordering) → Machine K P V → (M → Point) → (O → List (ReplyView K V M)) → Held K P V M → Ledger K V M O → Type 0
StandsOf order m point puts h l = Stands (AccountStands puts) (answer_by order m point) puts (fields_of h) l

-- ---- the ledger of a store

-- `StandsFor order m point store l` is that `store` stands for the ledger `l`
abbrev pub StandsFor : {R K P V M : Type 0} → (K → K → Ordering) → Machine K P V → (M → Point) → StoreView R K P V M → Ledger K V M (Told K V M) → Type 0
StandsFor order m point store l = StandsOf order m point told_puts (held store) l

-- `IsWhole order m point stamp store` is the invariant of a store with the stamp `stamp`: the stamp is
-- of the last revision and the sources now; its table keeps its invariant; the numbers of clients and
-- runs are above those given; its queue is of the requests that wait, and there is room for a run of
-- each; its runs and their claims are kept; and it stands for a ledger
pub record IsWhole {R K P V M : Type 0} (order : K → K → Ordering) (m : Machine K P V) (point : M → Point) (stamp : M) (store : StoreView R K P V M) : Type 0 where
  pub stamped : point stamp ≡ point_now store.inputs
  pub kept : KeptOver order m store.inputs store.places
  pub accounts_above : IsAbove store.clients store.accounts.items
  pub runs_above : IsAbove store.started store.runs.items
  pub queue : IsQueue store.accounts.items store.waiting
  pub room : length store.waiting ≤ store.runs.room
  pub runs : RunsKept order m store.inputs (memo_at order store.places) store.claims store.runs.items
  pub ledger : (l : Ledger K V M (Told K V M)) × StandsFor order m point store l

-- ---- what is made

-- `IsMadeIn store c n ready` is that the reply `ready` to the request `n` of the client `c` is made
-- and not collected
pub record IsMadeIn {R K P V M : Type 0} (store : StoreView R K P V M) (c n : ℕ) (ready : ReadyView K V M) : Type 0 where
  pub account : AccountView K V M
  pub here : found store.accounts.items c ≡ Some account
  pub made : IsStage account n (Made ready)

-- `OwesIn store c` is that the client `c` is open, and that a request of it was accepted whose reply was
-- not acknowledged as put
pub record OwesIn {R K P V M : Type 0} (store : StoreView R K P V M) (c : ℕ) : Type 0 where
  pub account : AccountView K V M
  pub here : found store.accounts.items c ≡ Some account
  pub some : 0 < length account.stages

-- `NoneMade store` is that no reply is made and not collected
abbrev pub NoneMade : {R K P V M : Type 0} → StoreView R K P V M → Type 0
NoneMade {K = K} {V = V} {M = M} store = (c n : ℕ) (ready : ReadyView K V M) → IsMadeIn store c n ready → ⊥

-- `Makes before after l m` is what a call that leads from the ledger `l` to `m` makes: each reply that
-- became ready is made; what was made is so still, while it is ready; and nothing else is
pub record Makes {R K P V M O : Type 0} (before after : StoreView R K P V M) (l m : Ledger K V M O) : Type 0 where
  pub fresh : (c n : ℕ) (entry : Entry K V M) (reply : ReplyView K V M) → IsReadyAt m c n entry reply → NoneReadyAt l c n
      → IsMadeIn after c n (record { reply = reply; accepted = entry.accepted })
  pub kept : (c n : ℕ) (entry : Entry K V M) (reply : ReplyView K V M) (ready : ReadyView K V M) → IsReadyAt m c n entry reply → IsMadeIn before c n ready → IsMadeIn after c n ready
  pub only : (c n : ℕ) (ready : ReadyView K V M) → IsMadeIn after c n ready → IsMadeIn before c n ready ⊎ NoneReadyAt l c n

-- `Goes order m point before after Move` is that `Move` leads from each ledger that `before` stands
-- for to one that `after` stands for, and what was made
abbrev pub Goes : {R K P V M : Type 0} → (K → K → Ordering) → Machine K P V → (M → Point) → StoreView R K P V M → StoreView R K P V M → (Ledger K V M (Told K V M) → Ledger K V M (Told K V M) → Type 0) → Type 0
Goes {R} {K} {P} {V} {M} order m point before after Move =
    (l : Ledger K V M (Told K V M)) → StandsFor order m point before l
    → (n : Ledger K V M (Told K V M)) × Move l n × StandsFor order m point after n × Makes before after l n

-- ---- collecting, and what was put

-- `Collects c answer before after` is that one reply to the client `c` that is made is taken out; or
-- that there is none
abbrev pub Collects : {R K P V M : Type 0} → ℕ → Option (ReadyView K V M) → StoreView R K P V M → StoreView R K P V M → Type 0
Collects {R} {K} {P} {V} {M} c (Some ready) before after =
    (ready.reply.client ≡ c) × IsMadeIn before c ready.reply.number ready
    × ((k n : ℕ) (other : ReadyView K V M) → IsMadeIn after k n other → IsMadeIn before k n other × ((k ≡ c) → (n ≡ ready.reply.number) → ⊥))
    × ((k n : ℕ) (other : ReadyView K V M) → IsMadeIn before k n other → ((k ≡ c) × (n ≡ ready.reply.number)) ⊎ IsMadeIn after k n other)
Collects {R} {K} {P} {V} {M} c None before after =
    ((n : ℕ) (ready : ReadyView K V M) → IsMadeIn before c n ready → ⊥)
    × ((k n : ℕ) (other : ReadyView K V M) → IsMadeIn after k n other → IsMadeIn before k n other)
    × ((k n : ℕ) (other : ReadyView K V M) → IsMadeIn before k n other → IsMadeIn after k n other)

-- `MayTell store l c n` is that all replies to the open client `c` below `n` may be acknowledged: a
-- higher number was not, and each of them that was not acknowledged was collected
pub record MayTell {R K P V M : Type 0} (store : StoreView R K P V M) (l : Ledger K V M (Told K V M)) (c n : ℕ) : Type 0 where
  pub client : Client K V M (Told K V M)
  pub open_yet : IsOpen l c client
  pub later : length client.outbox ≤ n
  pub collected : (i : ℕ) → length client.outbox ≤ i → i < n
      → ((entry : Entry K V M) × (reply : ReplyView K V M) × IsReadyAt l c i entry reply) × ((ready : ReadyView K V M) → IsMadeIn store c i ready → ⊥)

-- `Hears store c n l m` is that all replies to the client `c` below `n` are acknowledged to `store`, if
-- they may be; else nothing changes
pub record Hears {R K P V M : Type 0} (store : StoreView R K P V M) (c n : ℕ) (l m : Ledger K V M (Told K V M)) : Type 0 where
  pub told : (may : MayTell store l c n) → Tells c (n - length may.client.outbox) l m
  pub ignored : (MayTell store l c n → ⊥) → m ≡ l

-- ---- the work that a run hands out

-- `OnCarry Says move` is that `Says` holds of the work that `move` hands out, if it hands out work
abbrev pub OnCarry : {W : Type 0} → (W → Type 0) → Move W → Type 0
OnCarry Says (Carry work) = Says work
OnCarry Says (Blocked run) = Unit {0}
OnCarry Says Stepped = Unit {0}
OnCarry Says Answered = Unit {0}
OnCarry Says Stopped = Unit {0}

-- `KeepsMemos order before after` is that no memo of `before` is lost in `after`
abbrev pub KeepsMemos : {R K P V M : Type 0} → (K → K → Ordering) → StoreView R K P V M → StoreView R K P V M → Type 0
KeepsMemos order before after = NoneLost (memo_at order before.places) (memo_at order after.places)

-- `HandsOut store run move` is that the work that `move` hands out, if it does, is for `run`, of the
-- rules of `store` and over its sources
abbrev pub HandsOut : {R K P V M : Type 0} → StoreView R K P V M → ℕ → Move (WorkView R K P V) → Type 0
HandsOut store run move = OnCarry (IsWorkOf store.rules run store.inputs.revision store.inputs.files) move

-- `NamesCause order m store work` is that `work`, if its rule is to be started, and only then, names
-- a cause, which the table of `store` gives
abbrev pub NamesCause : {R K P V M : Type 0} → (K → K → Ordering) → Machine K P V → StoreView R K P V M → WorkView R K P V → Type 0
NamesCause order m store work =
    HasWhy (IsCause order m store.inputs.history store.inputs.revision (HasIn (memo_at order store.places)) work.done.key) work.done.front work.why

-- `HasCause order m store move` is that the work that `move` hands out, if it does, names its cause
abbrev pub HasCause : {R K P V M : Type 0} → (K → K → Ordering) → Machine K P V → StoreView R K P V M → Move (WorkView R K P V) → Type 0
HasCause order m store move = OnCarry (NamesCause order m store) move

-- `NamesHolder claims run move` is that the run by which `move` is blocked, if it is, is `run` itself,
-- or another run, which holds the key that `run` waits for
abbrev pub NamesHolder : {W K : Type 0} → List (ℕ × Hold K) → ℕ → Move W → Type 0
NamesHolder claims run (Carry work) = Unit {0}
NamesHolder claims run (Blocked other) = (other ≡ run) ⊎ ((other ≢ run) × WaitsFor claims run other)
NamesHolder claims run Stepped = Unit {0}
NamesHolder claims run Answered = Unit {0}
NamesHolder claims run Stopped = Unit {0}
