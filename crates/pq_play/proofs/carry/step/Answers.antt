use Rattle.std.proofs.Common.{subst}
use Rattle.std.specs.Prelude.{Result}
use Rattle.std.proofs.lemmas.Result.{on_ok_weaker}
use Rattle.pq_core.specs.Works.{WorkView}
use Rattle.pq_core.specs.Moves.{Reaches, Looks}
use Rattle.pq_core.specs.declared.values.moves.Move.{Move}
use Rattle.pq_core.specs.declared.values.fault.LookFault.{LookFault}
use Rattle.pq_play.specs.aux.Running.{done_of}
use Rattle.pq_core.specs.Cores.{StandsFor}
use Rattle.pq_play.specs.World.{replies_of, own_point}
use Rattle.pq_play.proofs.Carrying.{carried_step}
use Rattle.pq_play.proofs.carry.step.Goals as goal

pub returns-in-Ok : goal.returns-in-Ok
returns-in-Ok g c = on_ok_weaker c.keep_move.result (λ kept room w s.
    carried_step room g.R.Key.Ord.cmp (g.R.Rules.machine c.args.rules.now) c.args.rules.now c.args.core.now.rules c.look-answer.new.self.rules (StandsFor g.R.Key.Ord.cmp (g.R.Rules.machine c.args.rules.now) own_point replies_of c.args.core.now) (StandsFor g.R.Key.Ord.cmp (g.R.Rules.machine c.args.rules.now) own_point replies_of c.look-answer.new.self) w c.args.sheet.now.seats.items (done_of c.args.sheet.now.dones) s c.look-answer.ensures.rules
    c.args.run c.in-Ok.step (done_of c.keep_move.new.dones)
    (subst (λ (x : Result (Move (WorkView g.row.R.Denot g.row.R-Key.Denot g.row.R-Part.Denot g.row.R-Value.Denot)) LookFault). Reaches (Looks g.R.Key.Ord.cmp (g.R.Rules.machine c.args.rules.now) own_point c.args.rules.now c.args.run x) w.ledger (StandsFor g.R.Key.Ord.cmp (g.R.Rules.machine c.args.rules.now) own_point replies_of c.look-answer.new.self)) c.in-Ok.is
    (subst (λ (r : g.row.R.Denot). StandsFor g.R.Key.Ord.cmp (g.R.Rules.machine r) own_point replies_of c.args.core.now w.ledger → Reaches (Looks g.R.Key.Ord.cmp (g.R.Rules.machine r) own_point r c.args.run c.look-answer.result) w.ledger (StandsFor g.R.Key.Ord.cmp (g.R.Rules.machine r) own_point replies_of c.look-answer.new.self)) s.own_same (c.look-answer.ensures.moved w.ledger) s.stands))
    kept) c.keep_move.ensures
