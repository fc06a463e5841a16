use Rattle.std.proofs.Common.{subst}
use Rattle.pq_memo.specs.EngineView.{EngineView}
use Rattle.pq_memo.specs.Sound.{Sound}
use Rattle.pq_memo.specs.Table.{memo_at, HasIn}
use Rattle.pq_memo.proofs.demand.engine.engine_is_sound.Goals as goal

pub returns : goal.returns
returns g c =
    subst (λ (v : EngineView g.row.R.Denot g.row.R-Key.Denot g.row.R-Value.Denot). Sound g.R.Key.Ord.cmp (g.R.Rules.machine v.rules) v.inputs.history v.inputs.revision (HasIn (memo_at g.R.Key.Ord.cmp v.places))) c.engine.view_is
    (c.kept_is_sound.ensures.sound c.engine.inside.inputs c.engine.invariant)
