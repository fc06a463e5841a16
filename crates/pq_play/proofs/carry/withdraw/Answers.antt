use Rattle.pq_play.specs.aux.Running.{done_of}
use Rattle.pq_core.specs.Cores.{StandsFor}
use Rattle.pq_play.proofs.Ruled.{by_rules}
use Rattle.pq_play.specs.World.{replies_of, own_point}
use Rattle.pq_play.proofs.Carrying.{carried_withdraw}
use Rattle.pq_play.proofs.carry.withdraw.Goals as goal

pub returns : goal.returns
returns g c = λ room w s.
    carried_withdraw room g.R.Key.Ord.cmp (g.R.Rules.machine c.args.rules.now) c.args.rules.now c.args.core.now.rules c.withdraw-answer.new.self.rules (StandsFor g.R.Key.Ord.cmp (g.R.Rules.machine c.args.rules.now) own_point replies_of c.args.core.now) (StandsFor g.R.Key.Ord.cmp (g.R.Rules.machine c.args.rules.now) own_point replies_of c.withdraw-answer.new.self) w c.args.sheet.now.seats.items (done_of c.args.sheet.now.dones) s c.withdraw-answer.ensures.rules
    c.args.client c.args.label.now c.withdraw-answer.result (by_rules g.R.Key.Ord.cmp g.R.Rules.machine c.args.core.now.rules c.args.rules.now s.own_same _ c.args.core.now c.withdraw-answer.new.self w.ledger c.withdraw-answer.ensures.moved s.stands)
