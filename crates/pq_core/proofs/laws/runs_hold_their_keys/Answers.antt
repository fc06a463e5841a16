use Rattle.std.proofs.Common.{ℕ, subst}
use Rattle.pq_memo.specs.Look.{IsUpToDate}
use Rattle.pq_memo.specs.Table.{memo_at, HasIn}
use Rattle.pq_claims.specs.Claims.{AreSound, Holds}
use Rattle.pq_core.specs.Ledger.{Ledger}
use Rattle.pq_core.specs.Moves.{RunAt, Runs}
use Rattle.pq_core.specs.Told.{told_ledger}
use Rattle.pq_core.specs.Cores.{CoreView, StandsFor}
use Rattle.pq_core.proofs.Told.{run_of}
use Rattle.pq_core.proofs.laws.runs_hold_their_keys.Goals as goal

pub returns-clause-sound : goal.returns-clause-sound
returns-clause-sound g c = subst (λ (v : CoreView g.row.R.Denot g.row.R-Key.Denot g.row.R-Part.Denot g.row.R-Value.Denot g.row.M.Denot g.row.O.Denot). AreSound v.claims) c.core.view_is c.store_holds_keys.ensures.sound

pub returns-clause-runs : goal.returns-clause-runs
returns-clause-runs g c =
    subst (λ (v : CoreView g.row.R.Denot g.row.R-Key.Denot g.row.R-Part.Denot g.row.R-Value.Denot g.row.M.Denot g.row.O.Denot).
    (run : ℕ) (key : g.row.R-Key.Denot) → Holds v.claims run key → (l : Ledger g.row.R-Key.Denot g.row.R-Value.Denot g.row.M.Denot g.row.O.Denot)
    → StandsFor g.R.Key.Ord.cmp (g.R.Rules.machine v.rules) g.M.Stamp.point g.O.Outbox.puts v l → (at : RunAt g.row.R-Key.Denot g.row.R-Value.Denot g.row.M.Denot g.row.O.Denot) × Runs l run at) c.core.view_is
    (λ run key holds l s.
    let x = c.store_holds_keys.ensures.runs run key holds (told_ledger g.O.Outbox.puts l) s.store in
    let w = run_of g.O.Outbox.puts l run x.0 x.1 in (w.at, w.runs))

pub returns-clause-stale : goal.returns-clause-stale
returns-clause-stale g c =
    subst (λ (v : CoreView g.row.R.Denot g.row.R-Key.Denot g.row.R-Part.Denot g.row.R-Value.Denot g.row.M.Denot g.row.O.Denot).
    (run : ℕ) (key : g.row.R-Key.Denot) → Holds v.claims run key → IsUpToDate (g.R.Rules.machine v.rules) v.inputs.revision (HasIn (memo_at g.R.Key.Ord.cmp v.places)) key → ⊥) c.core.view_is
    c.store_holds_keys.ensures.stale
