use Rattle.std.proofs.Common.{subst, ℕ}
use Rattle.std.specs.Prelude.{Result, Ok}
use Rattle.std.proofs.lemmas.Result.{on_ok_weaker}
use Rattle.pq_core.specs.Moves.{Reaches, Accepts}
use Rattle.pq_core.specs.declared.values.request.Request.{Request}
use Rattle.pq_core.specs.declared.values.fault.AcceptRefused.{AcceptRefused}
use Rattle.pq_play.specs.World.{replies_of, own_point}
use Rattle.pq_play.specs.aux.Running.{done_of}
use Rattle.pq_core.specs.Cores.{StandsFor}
use Rattle.pq_play.proofs.Ruled.{by_rules}
use Rattle.pq_play.proofs.Carrying.{carried_accepted}
use Rattle.pq_play.proofs.carry.accept.Goals as goal

pub returns-in-Ok : goal.returns-in-Ok
returns-in-Ok g c = on_ok_weaker c.keep_request.result (λ kept room w s.
    carried_accepted room g.R.Key.Ord.cmp (g.R.Rules.machine c.args.rules.now) c.args.rules.now c.args.core.now.rules c.accept-answer.new.self.rules (StandsFor g.R.Key.Ord.cmp (g.R.Rules.machine c.args.rules.now) own_point replies_of c.args.core.now) (StandsFor g.R.Key.Ord.cmp (g.R.Rules.machine c.args.rules.now) own_point replies_of c.accept-answer.new.self) w c.args.sheet.now.seats.items (done_of c.args.sheet.now.dones) s c.accept-answer.ensures.rules
    c.args.client c.args.request.now c.in-Ok._number c.keep_request.new.seats.items
    (subst (λ (x : Request g.row.R-Key.Denot). Reaches (Accepts replies_of c.args.client x (Ok c.in-Ok._number)) w.ledger (StandsFor g.R.Key.Ord.cmp (g.R.Rules.machine c.args.rules.now) own_point replies_of c.accept-answer.new.self)) c.in_ok-given.ensures
    (subst (λ (x : Result ℕ (AcceptRefused g.row.R-Key.Denot)). Reaches (Accepts replies_of c.args.client c.in_ok-given.given x) w.ledger (StandsFor g.R.Key.Ord.cmp (g.R.Rules.machine c.args.rules.now) own_point replies_of c.accept-answer.new.self)) c.in-Ok.is (by_rules g.R.Key.Ord.cmp g.R.Rules.machine c.args.core.now.rules c.args.rules.now s.own_same _ c.args.core.now c.accept-answer.new.self w.ledger c.accept-answer.ensures.moved s.stands)))
    kept) c.keep_request.ensures
