use Rattle.std.proofs.Common.{refl, subst, sym, ◌∙◌}
use Rattle.std.specs.Prelude.{Result}
use Rattle.pq_core.specs.Works.{DoneView, WorkView}
use Rattle.pq_core.specs.Moves.{Reaches, Gives}
use Rattle.pq_core.specs.declared.values.moves.Move.{Move}
use Rattle.pq_core.specs.declared.values.fault.GiveRefused.{GiveRefused}
use Rattle.pq_play.specs.aux.Running.{done_of}
use Rattle.pq_core.specs.Cores.{StandsFor}
use Rattle.pq_play.proofs.Ruled.{by_rules, made_by}
use Rattle.pq_play.specs.World.{replies_of, own_point}
use Rattle.pq_play.proofs.Carrying.{given_made, carried_given, carried_over, carried_not_given}
use Rattle.pq_play.proofs.carry.give.Goals as goal

pub give-requires : goal.give-requires
give-requires g c =
    let w = c.requires.0 in
    let s = c.requires.1 in
    made_by c.args.core.now.rules c.args.rules.now w.ledger.inputs c.args.core.now.inputs c.in-Some.done s.own_same s.stands.inputs
    (given_made 0 g.R.Key.Ord.cmp (g.R.Rules.machine c.args.rules.now) c.args.rules.now c.args.core.now.rules c.args.core.now.rules (StandsFor g.R.Key.Ord.cmp (g.R.Rules.machine c.args.rules.now) own_point replies_of c.args.core.now) (StandsFor g.R.Key.Ord.cmp (g.R.Rules.machine c.args.rules.now) own_point replies_of c.args.core.now) w c.args.sheet.now.seats.items (done_of c.args.sheet.now.dones) s refl
    c.args.run c.in-Some.done (sym c.in-Some.is ∙ c.take_done.ensures.value))

pub returns-in-Ok : goal.returns-in-Ok
returns-in-Ok g c = λ room w s.
    carried_given room g.R.Key.Ord.cmp (g.R.Rules.machine c.args.rules.now) c.args.rules.now c.args.core.now.rules c.give.new.self.rules (StandsFor g.R.Key.Ord.cmp (g.R.Rules.machine c.args.rules.now) own_point replies_of c.args.core.now) (StandsFor g.R.Key.Ord.cmp (g.R.Rules.machine c.args.rules.now) own_point replies_of c.give.new.self) w c.args.sheet.now.seats.items (done_of c.args.sheet.now.dones) s c.give.ensures.rules
    c.args.run c.in-Some.done c.in-Ok._step (done_of c.take_done.new.dones) (sym c.in-Some.is ∙ c.take_done.ensures.value) c.take_done.ensures.gone
    (subst (λ (x : Result (Move (WorkView g.row.R.Denot g.row.R-Key.Denot g.row.R-Part.Denot g.row.R-Value.Denot)) (GiveRefused (DoneView g.row.R.Denot g.row.R-Key.Denot g.row.R-Part.Denot g.row.R-Value.Denot))). Reaches (Gives c.args.run c.in-Some.done x) w.ledger (StandsFor g.R.Key.Ord.cmp (g.R.Rules.machine c.args.rules.now) own_point replies_of c.give.new.self)) c.in-Ok.is (by_rules g.R.Key.Ord.cmp g.R.Rules.machine c.args.core.now.rules c.args.rules.now s.own_same _ c.args.core.now c.give.new.self w.ledger c.give.ensures.moved s.stands))

pub returns-in-NotThisRun : goal.returns-in-NotThisRun
returns-in-NotThisRun g c = λ room w s.
    carried_over room g.R.Key.Ord.cmp (g.R.Rules.machine c.args.rules.now) c.args.rules.now c.args.core.now.rules c.give.new.self.rules (StandsFor g.R.Key.Ord.cmp (g.R.Rules.machine c.args.rules.now) own_point replies_of c.args.core.now) (StandsFor g.R.Key.Ord.cmp (g.R.Rules.machine c.args.rules.now) own_point replies_of c.give.new.self) w c.args.sheet.now.seats.items (done_of c.args.sheet.now.dones) s c.give.ensures.rules
    c.args.run c.in-Some.done c.in-Err.refused (done_of c.take_done.new.dones) c.in-NotThisRun.is (sym c.in-Some.is ∙ c.take_done.ensures.value) c.take_done.ensures.gone
    (subst (λ (x : Result (Move (WorkView g.row.R.Denot g.row.R-Key.Denot g.row.R-Part.Denot g.row.R-Value.Denot)) (GiveRefused (DoneView g.row.R.Denot g.row.R-Key.Denot g.row.R-Part.Denot g.row.R-Value.Denot))). Reaches (Gives c.args.run c.in-Some.done x) w.ledger (StandsFor g.R.Key.Ord.cmp (g.R.Rules.machine c.args.rules.now) own_point replies_of c.give.new.self)) c.in-Err.is (by_rules g.R.Key.Ord.cmp g.R.Rules.machine c.args.core.now.rules c.args.rules.now s.own_same _ c.args.core.now c.give.new.self w.ledger c.give.ensures.moved s.stands))

pub returns-in-None : goal.returns-in-None
returns-in-None g c = λ room w s.
    carried_not_given room g.R.Key.Ord.cmp (g.R.Rules.machine c.args.rules.now) c.args.rules.now c.args.core.now.rules (StandsFor g.R.Key.Ord.cmp (g.R.Rules.machine c.args.rules.now) own_point replies_of c.args.core.now) w c.args.sheet.now.seats.items (done_of c.args.sheet.now.dones) s
    c.args.run (done_of c.take_done.new.dones) (sym c.in-None.is ∙ c.take_done.ensures.value) c.take_done.ensures.gone
