-- Auxiliary: an edit before its turn, and a turn in parts.
use Rattle.std.specs.Prelude.{ℕ, ◌≡◌, ◌+◌, ◌<◌, ◌⊎◌, Bool, List, length, slice_get, Option, Some, None, Ok, Err, Result}
use Rattle.std.specs.declared.cmp.Ordering.{Ordering}
use Rattle.pq_inputs.specs.Refusal.{refusal}
use Rattle.pq_rules.specs.Turns.{Machine}
use Rattle.pq_core.specs.Changes.{ChangeView}
use Rattle.pq_core.specs.Points.{Point}
use Rattle.pq_core.specs.Ledger.{Out, Running, Entry, Client, Ledger, IsOpen}
use Rattle.pq_core.specs.Moves.{EditRefusal, Reaches, Stops, edited, text_made, turned}
use Rattle.pq_core.specs.Stores.{StandsFor, StoreView}
use Rattle.pq_core.specs.Told.{Told}
use Rattle.pq_core.specs.aux.Advancing.{AllGoOn}
use Rattle.pq_core.specs.aux.Rising.{found, numbers}
use Rattle.pq_core.specs.aux.Runs.{RunView}
use Rattle.pq_core.specs.declared.values.fault.EditRefused.{EditRefused}

-- `Sets c change answer l m` is what `Edits` says, but that no run ends
abbrev pub Sets : {K V M O : Type 0} → ℕ → ChangeView → Result ℕ EditRefused → Ledger K V M O → Ledger K V M O → Type 0
Sets {K} {V} {M} {O} c change (Ok revision) l m =
    (client : Client K V M O) × IsOpen l c client
    × ((text : Option (List ℕ)) × (text_made l.inputs.files change ≡ Some text) × (refusal l.inputs change.file text ≡ None))
    × (revision ≡ l.inputs.revision + 1)
    × (m ≡ edited l change)
Sets c change (Err refused) l m = (refused.change ≡ change) × EditRefusal l c change refused.fault × (m ≡ l)

-- `PartEntry l c n is_open x y` is that the run of `x`, the request `n` of the client `c`, if it is
-- in one, is over in `y` or not yet
pub data PartEntry {K V M O : Type 0} (l : Ledger K V M O) (c n : ℕ) (is_open : Bool) (x y : Entry K V M) : Type 0 where
  Over : (run started : ℕ) (out : Option (Out K)) → x.place ≡ Running run started out → y ≡ turned l c n is_open started x → PartEntry l c n is_open x y
  NotYet : y ≡ x → PartEntry l c n is_open x y

-- `PartClient l c x y` is that some runs of `x`, the client `c`, are over in `y`
pub record PartClient {K V M O : Type 0} (l : Ledger K V M O) (c : ℕ) (x y : Client K V M O) : Type 0 where
  pub outbox : y.outbox ≡ x.outbox
  pub is_open : y.is_open ≡ x.is_open
  pub refused : y.refused ≡ x.refused
  pub long : length y.entries ≡ length x.entries
  pub each : (n : ℕ) (e f : Entry K V M) → slice_get x.entries n ≡ Some e → slice_get y.entries n ≡ Some f → PartEntry l c n x.is_open e f

-- `PartTurns l m` is that some runs of `l` are over in `m`
pub record PartTurns {K V M O : Type 0} (l m : Ledger K V M O) : Type 0 where
  pub inputs : m.inputs ≡ l.inputs
  pub runs : m.runs ≡ l.runs
  pub long : length m.clients ≡ length l.clients
  pub each : (c : ℕ) (x y : Client K V M O) → slice_get l.clients c ≡ Some x → slice_get m.clients c ≡ Some y → PartClient l c x y

-- `MayStop l m` is that one run of `l` that was overtaken ends, or none
abbrev pub MayStop : {K V M O : Type 0} → Ledger K V M O → Ledger K V M O → Type 0
MayStop l m = ((run : ℕ) × Stops l run m) ⊎ (m ≡ l)

-- `AreLate store` is that each run of `store` was started before the revision now
abbrev pub AreLate : {R K P V M : Type 0} → StoreView R K P V M → Type 0
AreLate {R} {K} {P} store = (r : ℕ) (run : RunView K P) → found store.runs.items r ≡ Some run → run.started < store.inputs.revision

-- `EndsPlace order machine point before after at` is that the run in the place `at` of the map of
-- runs ended, if there was one, and no other
pub record EndsPlace {R K P V M : Type 0} (order : K → K → Ordering) (machine : R → Machine K P V) (point : M → Point) (before after : StoreView R K P V M) (at : ℕ) : Type 0 where
  pub rules : after.rules ≡ before.rules
  pub inputs : after.inputs ≡ before.inputs
  pub places : after.places ≡ before.places
  pub numbered : numbers after.runs.items ≡ numbers before.runs.items
  pub over : (r : ℕ) → slice_get (numbers before.runs.items) at ≡ Some r → found after.runs.items r ≡ None
  pub left : (r : ℕ) → (found after.runs.items r ≡ None) ⊎ (found after.runs.items r ≡ found before.runs.items r)
  pub goes_on : AllGoOn before.accounts.items after.accounts.items
  pub stops : (l : Ledger K V M (Told K V M)) → StandsFor order (machine before.rules) point before l → Reaches MayStop l (StandsFor order (machine before.rules) point after)

-- `EndsPlaces order machine point before after n` is that the runs in the first `n` places of the
-- map of runs ended, and no other
pub record EndsPlaces {R K P V M : Type 0} (order : K → K → Ordering) (machine : R → Machine K P V) (point : M → Point) (before after : StoreView R K P V M) (n : ℕ) : Type 0 where
  pub rules : after.rules ≡ before.rules
  pub inputs : after.inputs ≡ before.inputs
  pub places : after.places ≡ before.places
  pub numbered : numbers after.runs.items ≡ numbers before.runs.items
  pub over : (at r : ℕ) → at < n → slice_get (numbers before.runs.items) at ≡ Some r → found after.runs.items r ≡ None
  pub left : (r : ℕ) → (found after.runs.items r ≡ None) ⊎ (found after.runs.items r ≡ found before.runs.items r)
  pub goes_on : AllGoOn before.accounts.items after.accounts.items
  pub parts : (l : Ledger K V M (Told K V M)) → StandsFor order (machine before.rules) point before l → Reaches PartTurns l (StandsFor order (machine before.rules) point after)
