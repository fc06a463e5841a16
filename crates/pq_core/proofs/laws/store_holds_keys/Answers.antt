use Rattle.std.proofs.Common.{ℕ, subst}
use Rattle.pq_memo.specs.Look.{IsUpToDate}
use Rattle.pq_memo.specs.Table.{memo_at, HasIn}
use Rattle.pq_claims.specs.Claims.{AreSound, Holds}
use Rattle.pq_core.specs.Ledger.{Ledger}
use Rattle.pq_core.specs.Moves.{RunAt, Runs}
use Rattle.pq_core.specs.Stores.{StoreView, StandsFor}
use Rattle.pq_core.specs.Told.{Told, told_puts}
use Rattle.pq_core.proofs.Claiming.{holder_there}
use Rattle.pq_core.proofs.StoreRunning.{run_here}
use Rattle.pq_core.proofs.laws.store_holds_keys.Goals as goal

pub returns-clause-sound : goal.returns-clause-sound
returns-clause-sound g c = subst (λ (v : StoreView g.row.R.Denot g.row.R-Key.Denot g.row.R-Part.Denot g.row.R-Value.Denot g.row.M.Denot). AreSound v.claims) c.store.view_is c.claims_are_sound.ensures.sound

pub returns-clause-runs : goal.returns-clause-runs
returns-clause-runs g c =
    subst (λ (v : StoreView g.row.R.Denot g.row.R-Key.Denot g.row.R-Part.Denot g.row.R-Value.Denot g.row.M.Denot).
    (run : ℕ) (key : g.row.R-Key.Denot) → Holds v.claims run key → (l : Ledger g.row.R-Key.Denot g.row.R-Value.Denot g.row.M.Denot (Told g.row.R-Key.Denot g.row.R-Value.Denot g.row.M.Denot))
    → StandsFor g.R.Key.Ord.cmp (g.R.Rules.machine v.rules) g.M.Stamp.point v l → (at : RunAt g.row.R-Key.Denot g.row.R-Value.Denot g.row.M.Denot (Told g.row.R-Key.Denot g.row.R-Value.Denot g.row.M.Denot)) × Runs l run at) c.store.view_is
    (λ run key holds l s.
    let there = holder_there c.store.inside.claims c.store.inside.runs.items run key c.store.invariant.runs.claimed holds in
    let x = run_here g.R.Key.Ord.cmp (g.R.Rules.machine c.store.inside.memos.rules) g.M.Stamp.point told_puts _ l run there.0 s there.1 in (x.at, x.runs))

pub returns-clause-stale : goal.returns-clause-stale
returns-clause-stale g c =
    subst (λ (v : StoreView g.row.R.Denot g.row.R-Key.Denot g.row.R-Part.Denot g.row.R-Value.Denot g.row.M.Denot).
    (run : ℕ) (key : g.row.R-Key.Denot) → Holds v.claims run key → IsUpToDate (g.R.Rules.machine v.rules) v.inputs.revision (HasIn (memo_at g.R.Key.Ord.cmp v.places)) key → ⊥) c.store.view_is
    c.store.invariant.runs.stale
