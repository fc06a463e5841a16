-- What contracts see of a core, which is a store and the lanes of the open clients; and which ledgers
-- it stands for.
use Rattle.std.specs.Prelude.{◌≡◌, ℕ, List, Option}
use Rattle.std.specs.declared.cmp.Ordering.{Ordering}
use Rattle.pq_inputs.specs.Sources.{Table}
use Rattle.pq_rules.specs.Turns.{Machine}
use Rattle.pq_memo.specs.Sound.{Memo}
use Rattle.pq_memo.specs.Table.{memo_at, HasIn}
use Rattle.pq_memo.specs.Cause.{IsCause}
use Rattle.pq_claims.specs.Claims.{Hold}
use Rattle.pq_core.specs.Works.{WorkView, IsWorkOf, HasWhy}
use Rattle.pq_core.specs.declared.values.moves.Move.{Move}
use Rattle.pq_core.specs.Points.{Point}
use Rattle.pq_core.specs.Replies.{ReplyView}
use Rattle.pq_core.specs.Ledger.{Ledger}
use Rattle.pq_core.specs.Lanes.{Tray}
use Rattle.pq_core.specs.Told.{told_ledger}
use Rattle.pq_core.specs.Stores.{StoreView, NoneMade}
use Rattle.pq_core.specs.Stores.{StandsFor as StoreStandsFor, OnCarry}
use Rattle.pq_core.specs.aux.Rising.{Slots, IsAbove}
use Rattle.pq_core.specs.aux.Places.{LanesStand}

-- `CoreView R K P V M O` is a core: its store, its lanes, and of the store the rule set, the places of
-- the memos, the inputs and the claims
pub record CoreView (R K P V M O : Type 0) : Type 0 where
  pub rules : R
  pub places : List (K × Option (Memo K V))
  pub inputs : Table
  pub claims : List (ℕ × Hold K)
  pub store : StoreView R K P V M
  pub lanes : Slots (Tray K V M O)

-- `core_of store lanes` is the core of `store` and `lanes`
abbrev pub core_of : {R K P V M O : Type 0} → StoreView R K P V M → Slots (Tray K V M O) → CoreView R K P V M O
core_of store lanes = record { rules = store.rules; places = store.places; inputs = store.inputs; claims = store.claims; store = store; lanes = lanes }

-- `StandsFor order m point puts core l` is that `core` stands for the ledger `l`: it has its inputs, all
-- that was put is acknowledged to its store, and each reply that is ready is in the lane of its client
pub record StandsFor {R K P V M O : Type 0} (order : K → K → Ordering) (m : Machine K P V) (point : M → Point) (puts : O → List (ReplyView K V M)) (core : CoreView R K P V M O) (l : Ledger K V M O) : Type 0 where
  pub inputs : l.inputs ≡ core.inputs
  pub store : StoreStandsFor order m point core.store (told_ledger puts l)
  pub lanes : LanesStand puts core.lanes.items l

-- `IsWhole order m point puts core` is the invariant of a core beside that of its store: the numbers
-- of lanes are below those of clients; no reply is on its way from the store to a lane; and the core
-- stands for a ledger
pub record IsWhole {R K P V M O : Type 0} (order : K → K → Ordering) (m : Machine K P V) (point : M → Point) (puts : O → List (ReplyView K V M)) (core : CoreView R K P V M O) : Type 0 where
  pub above : IsAbove core.store.clients core.lanes.items
  pub none_handed : NoneMade core.store
  pub ledger : (l : Ledger K V M O) × StandsFor order m point puts core l

-- `HandsOut core run move` is that the work that `move` hands out, if it does, is for `run`, of the
-- rules of `core` and over its sources
abbrev pub HandsOut : {R K P V M O : Type 0} → CoreView R K P V M O → ℕ → Move (WorkView R K P V) → Type 0
HandsOut core run move = OnCarry (IsWorkOf core.rules run core.inputs.revision core.inputs.files) move

-- `NamesCause order m core work` is that `work`, if its rule is to be started, and only then, names
-- a cause, which the table of `core` gives
abbrev pub NamesCause : {R K P V M O : Type 0} → (K → K → Ordering) → Machine K P V → CoreView R K P V M O → WorkView R K P V → Type 0
NamesCause order m core work =
    HasWhy (IsCause order m core.inputs.history core.inputs.revision (HasIn (memo_at order core.places)) work.done.key) work.done.front work.why

-- `HasCause order m core move` is that the work that `move` hands out, if it does, names its cause
abbrev pub HasCause : {R K P V M O : Type 0} → (K → K → Ordering) → Machine K P V → CoreView R K P V M O → Move (WorkView R K P V) → Type 0
HasCause order m core move = OnCarry (NamesCause order m core) move
