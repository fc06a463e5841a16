use Rattle.std.proofs.Common.{subst}
use Rattle.pq_memo.specs.Sound.{Sound}
use Rattle.pq_memo.specs.Table.{memo_at, HasIn}
use Rattle.pq_core.specs.Ledger.{Ledger}
use Rattle.pq_core.specs.Kept.{Kept}
use Rattle.pq_core.specs.RightReply.{answer_by}
use Rattle.pq_core.specs.Stores.{StoreView, StandsFor}
use Rattle.pq_core.specs.Told.{Told, told_puts}
use Rattle.pq_core.proofs.laws.store_is_sound.Goals as goal

pub returns-clause-sound : goal.returns-clause-sound
returns-clause-sound g c =
    subst (λ (v : StoreView g.row.R.Denot g.row.R-Key.Denot g.row.R-Part.Denot g.row.R-Value.Denot g.row.M.Denot). Sound g.R.Key.Ord.cmp (g.R.Rules.machine v.rules) v.inputs.history v.inputs.revision (HasIn (memo_at g.R.Key.Ord.cmp v.places))) c.store.view_is
    (c.kept_is_sound.ensures.sound c.store.inside.inputs c.store.invariant.kept)

pub returns-clause-stands : goal.returns-clause-stands
returns-clause-stands g c =
    subst (λ (v : StoreView g.row.R.Denot g.row.R-Key.Denot g.row.R-Part.Denot g.row.R-Value.Denot g.row.M.Denot).
    (l : Ledger g.row.R-Key.Denot g.row.R-Value.Denot g.row.M.Denot (Told g.row.R-Key.Denot g.row.R-Value.Denot g.row.M.Denot)) × StandsFor g.R.Key.Ord.cmp (g.R.Rules.machine v.rules) g.M.Stamp.point v l × Kept (answer_by g.R.Key.Ord.cmp (g.R.Rules.machine v.rules) g.M.Stamp.point) told_puts l) c.store.view_is
    (c.store.invariant.ledger.0, c.store.invariant.ledger.1, c.store.invariant.ledger.1.kept)
