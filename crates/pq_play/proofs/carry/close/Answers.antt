use Rattle.std.proofs.Common.{subst, Option}
use Rattle.pq_core.specs.Points.{Point}
use Rattle.pq_core.specs.Outboxes.{Listed}
use Rattle.pq_core.specs.Moves.{Reaches, Closes}
use Rattle.pq_play.specs.aux.Running.{done_of}
use Rattle.pq_core.specs.Cores.{StandsFor}
use Rattle.pq_play.proofs.Ruled.{by_rules}
use Rattle.pq_play.specs.World.{replies_of, own_point}
use Rattle.pq_play.proofs.Carrying.{carried_closed}
use Rattle.pq_play.proofs.carry.close.Goals as goal

pub returns-in-Some : goal.returns-in-Some
returns-in-Some g c = λ room w s.
    carried_closed room g.R.Key.Ord.cmp (g.R.Rules.machine c.args.rules.now) c.args.rules.now c.args.core.now.rules c.close_client.new.self.rules (StandsFor g.R.Key.Ord.cmp (g.R.Rules.machine c.args.rules.now) own_point replies_of c.args.core.now) (StandsFor g.R.Key.Ord.cmp (g.R.Rules.machine c.args.rules.now) own_point replies_of c.close_client.new.self) w c.args.sheet.now.seats.items (done_of c.args.sheet.now.dones) s c.close_client.ensures.rules
    c.args.client c.in-Some.outbox c.keep_outbox.new.seats.items
    (subst (λ (x : Option (Listed g.row.R-Key.Denot g.row.R-Value.Denot Point)). Reaches (Closes c.args.client x) w.ledger (StandsFor g.R.Key.Ord.cmp (g.R.Rules.machine c.args.rules.now) own_point replies_of c.close_client.new.self)) c.in-Some.is (by_rules g.R.Key.Ord.cmp g.R.Rules.machine c.args.core.now.rules c.args.rules.now s.own_same _ c.args.core.now c.close_client.new.self w.ledger c.close_client.ensures.moved s.stands))
    c.keep_outbox.ensures
