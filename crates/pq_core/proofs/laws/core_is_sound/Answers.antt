use Rattle.std.proofs.Common.{subst}
use Rattle.pq_memo.specs.Sound.{Sound}
use Rattle.pq_memo.specs.Table.{memo_at, HasIn}
use Rattle.pq_core.specs.Ledger.{Ledger}
use Rattle.pq_core.specs.Kept.{Kept}
use Rattle.pq_core.specs.RightReply.{answer_by}
use Rattle.pq_core.specs.Cores.{CoreView, StandsFor}
use Rattle.pq_core.proofs.Told.{kept_told}
use Rattle.pq_core.proofs.laws.core_is_sound.Goals as goal

pub returns-clause-sound : goal.returns-clause-sound
returns-clause-sound g c =
    subst (λ (v : CoreView g.row.R.Denot g.row.R-Key.Denot g.row.R-Part.Denot g.row.R-Value.Denot g.row.M.Denot g.row.O.Denot). Sound g.R.Key.Ord.cmp (g.R.Rules.machine v.rules) v.inputs.history v.inputs.revision (HasIn (memo_at g.R.Key.Ord.cmp v.places))) c.core.view_is
    c.store_is_sound.ensures.sound

pub returns-clause-stands : goal.returns-clause-stands
returns-clause-stands g c =
    let l = c.core.invariant.ledger in
    subst (λ (v : CoreView g.row.R.Denot g.row.R-Key.Denot g.row.R-Part.Denot g.row.R-Value.Denot g.row.M.Denot g.row.O.Denot).
    (l : Ledger g.row.R-Key.Denot g.row.R-Value.Denot g.row.M.Denot g.row.O.Denot) × StandsFor g.R.Key.Ord.cmp (g.R.Rules.machine v.rules) g.M.Stamp.point g.O.Outbox.puts v l × Kept (answer_by g.R.Key.Ord.cmp (g.R.Rules.machine v.rules) g.M.Stamp.point) g.O.Outbox.puts l) c.core.view_is
    (l.0, l.1, kept_told g.O.Outbox.puts (answer_by g.R.Key.Ord.cmp (g.R.Rules.machine c.core.inside.store.rules) g.M.Stamp.point) l.0 l.1.store.kept)
