-- The invariant of a store after a step of a run that leaves clients, requests and inputs as they were.
use Rattle.std.proofs.Common.{ℕ, ◌≤◌, List, length, Option, arith}
use Rattle.std.specs.declared.cmp.Ordering.{Ordering}
use Rattle.pq_rules.specs.Turns.{Machine}
use Rattle.pq_memo.specs.Sound.{Memo}
use Rattle.pq_memo.specs.Table.{memo_at, KeptOver}
use Rattle.pq_claims.specs.Claims.{Hold}
use Rattle.pq_core.specs.Points.{Point}
use Rattle.pq_core.specs.Ledger.{Ledger}
use Rattle.pq_core.specs.Told.{Told, told_puts}
use Rattle.pq_core.specs.Stores.{StoreView, IsWhole, StandsOf}
use Rattle.pq_core.specs.aux.Rising.{Slots, IsAbove}
use Rattle.pq_core.specs.aux.Runs.{RunView, RunsKept}

-- the memos, the claims and the runs are others
pub step_whole : {R K P V M : Type 0} (order : K → K → Ordering) (m : Machine K P V) (point : M → Point) (stamp : M) (s : StoreView R K P V M) (places : List (K × Option (Memo K V))) (runs : Slots (RunView K P)) (claims : List (ℕ × Hold K))
    → IsWhole order m point stamp s → KeptOver order m s.inputs places
    → (IsAbove s.started s.runs.items → IsAbove s.started runs.items) → s.runs.room ≤ runs.room
    → RunsKept order m s.inputs (memo_at order places) claims runs.items
    → ((l : Ledger K V M (Told K V M)) × StandsOf order m point told_puts (record { inputs = s.inputs; accounts = s.accounts.items; opened = s.opened; clients = s.clients; runs = runs.items; started = s.started }) l)
    → IsWhole order m point stamp (record { rules = s.rules; places = places; inputs = s.inputs; accounts = s.accounts; opened = s.opened; clients = s.clients; waiting = s.waiting; runs = runs; started = s.started; claims = claims })
step_whole order m point stamp s places runs claims w kept above room own ledger = record {
  stamped = w.stamped;
  kept = kept;
  accounts_above = w.accounts_above;
  runs_above = above w.runs_above;
  queue = w.queue;
  room = (let a : length s.waiting ≤ s.runs.room = w.room in omega (arith, a, room));
  runs = own;
  ledger = ledger;
}
