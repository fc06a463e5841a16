use Rattle.std.proofs.Common.{subst}
use Rattle.pq_core.specs.Changes.{ChangeView}
use Rattle.pq_core.specs.Moves.{Reaches, Edits}
use Rattle.pq_play.specs.aux.Running.{done_of}
use Rattle.pq_core.specs.Cores.{StandsFor}
use Rattle.pq_play.proofs.Ruled.{by_rules}
use Rattle.pq_play.specs.World.{replies_of, own_point}
use Rattle.pq_play.proofs.Carrying.{carried_edit}
use Rattle.pq_play.proofs.carry.edit.Goals as goal

pub returns : goal.returns
returns g c = λ room w s.
    carried_edit room g.R.Key.Ord.cmp (g.R.Rules.machine c.args.rules.now) c.args.rules.now c.args.core.now.rules c.edit-answer.new.self.rules (StandsFor g.R.Key.Ord.cmp (g.R.Rules.machine c.args.rules.now) own_point replies_of c.args.core.now) (StandsFor g.R.Key.Ord.cmp (g.R.Rules.machine c.args.rules.now) own_point replies_of c.edit-answer.new.self) w c.args.sheet.now.seats.items (done_of c.args.sheet.now.dones) s c.edit-answer.ensures.rules
    c.args.client c.args.change.now c.edit-answer.result (c.edit_answered.ensures c.if-not-edit_answered.false)
    (subst (λ (x : ChangeView). Reaches (Edits c.args.client x c.edit-answer.result) w.ledger (StandsFor g.R.Key.Ord.cmp (g.R.Rules.machine c.args.rules.now) own_point replies_of c.edit-answer.new.self)) c.in_ok-given.ensures (by_rules g.R.Key.Ord.cmp g.R.Rules.machine c.args.core.now.rules c.args.rules.now s.own_same _ c.args.core.now c.edit-answer.new.self w.ledger c.edit-answer.ensures.moved s.stands))
