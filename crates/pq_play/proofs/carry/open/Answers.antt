use Rattle.std.proofs.Common.{◌∙◌, ap, subst, [], ◌∷◌, ◌++◌, ℕ}
use Rattle.std.specs.Prelude.{Result, Ok, Err}
use Rattle.pq_core.specs.Points.{Point}
use Rattle.pq_core.specs.Outboxes.{Listed}
use Rattle.pq_core.specs.Moves.{Reaches, Opens}
use Rattle.pq_core.specs.declared.values.fault.OpenRefused.{OpenRefused}
use Rattle.pq_play.specs.Steps.{OpenAnswered}
use Rattle.pq_play.specs.aux.Seats.{SeatView}
use Rattle.pq_play.specs.aux.Running.{done_of}
use Rattle.pq_core.specs.Cores.{StandsFor}
use Rattle.pq_play.proofs.Ruled.{by_rules}
use Rattle.pq_play.specs.World.{replies_of, own_point}
use Rattle.pq_play.proofs.Carrying.{carried_opened, carried_not_opened}
use Rattle.pq_play.proofs.carry.open.Goals as goal

pub returns-in-Ok : goal.returns-in-Ok
returns-in-Ok g c = λ w s.
    carried_opened c.args.room g.R.Key.Ord.cmp (g.R.Rules.machine c.args.rules.now) c.args.rules.now c.args.core.now.rules c.open_client-answer.new.self.rules (StandsFor g.R.Key.Ord.cmp (g.R.Rules.machine c.args.rules.now) own_point replies_of c.args.core.now) (StandsFor g.R.Key.Ord.cmp (g.R.Rules.machine c.args.rules.now) own_point replies_of c.open_client-answer.new.self) w c.args.sheet.now.seats.items (done_of c.args.sheet.now.dones) s c.open_client-answer.ensures.rules
    c.in-Ok._client c.push.new.self.items
    (subst (λ (o : Listed g.row.R-Key.Denot g.row.R-Value.Denot Point). Reaches (Opens o (Ok c.in-Ok._client)) w.ledger (StandsFor g.R.Key.Ord.cmp (g.R.Rules.machine c.args.rules.now) own_point replies_of c.open_client-answer.new.self)) c.in_ok-outbox.ensures
    (subst (λ (x : Result ℕ (OpenRefused (Listed g.row.R-Key.Denot g.row.R-Value.Denot Point))). Reaches (Opens c.in_ok-outbox.outbox x) w.ledger (StandsFor g.R.Key.Ord.cmp (g.R.Rules.machine c.args.rules.now) own_point replies_of c.open_client-answer.new.self)) c.in-Ok.is (by_rules g.R.Key.Ord.cmp g.R.Rules.machine c.args.core.now.rules c.args.rules.now s.own_same _ c.args.core.now c.open_client-answer.new.self w.ledger c.open_client-answer.ensures.moved s.stands)))
    (c.in_ok-push-in-Ok.ensures.items ∙ ap (λ (x : SeatView g.row.R-Key.Denot g.row.R-Value.Denot). c.args.sheet.now.seats.items ++ x ∷ []) c.new-in-Ok.ensures)

pub returns-in-Err : goal.returns-in-Err
returns-in-Err g c = λ w s.
    carried_not_opened c.args.room g.R.Key.Ord.cmp (g.R.Rules.machine c.args.rules.now) c.args.rules.now c.args.core.now.rules c.open_client-answer.new.self.rules (StandsFor g.R.Key.Ord.cmp (g.R.Rules.machine c.args.rules.now) own_point replies_of c.args.core.now) (StandsFor g.R.Key.Ord.cmp (g.R.Rules.machine c.args.rules.now) own_point replies_of c.open_client-answer.new.self) w c.args.sheet.now.seats.items (done_of c.args.sheet.now.dones) s c.open_client-answer.ensures.rules
    c.in-Err._refused
    (subst (λ (x : Result ℕ (OpenRefused (Listed g.row.R-Key.Denot g.row.R-Value.Denot Point))). OpenAnswered x) c.in-Err.is (c.open_answered.ensures c.if-not-open_answered.false))
    (subst (λ (o : Listed g.row.R-Key.Denot g.row.R-Value.Denot Point). Reaches (Opens o (Err c.in-Err._refused)) w.ledger (StandsFor g.R.Key.Ord.cmp (g.R.Rules.machine c.args.rules.now) own_point replies_of c.open_client-answer.new.self)) c.in_ok-outbox.ensures
    (subst (λ (x : Result ℕ (OpenRefused (Listed g.row.R-Key.Denot g.row.R-Value.Denot Point))). Reaches (Opens c.in_ok-outbox.outbox x) w.ledger (StandsFor g.R.Key.Ord.cmp (g.R.Rules.machine c.args.rules.now) own_point replies_of c.open_client-answer.new.self)) c.in-Err.is (by_rules g.R.Key.Ord.cmp g.R.Rules.machine c.args.core.now.rules c.args.rules.now s.own_same _ c.args.core.now c.open_client-answer.new.self w.ledger c.open_client-answer.ensures.moved s.stands)))
