use Rattle.pq_play.proofs.Finishing.{playing_next, led_all}
use Rattle.pq_play.proofs.run.carry_all.Goals as goal

pub carry-requires : goal.carry-requires
carry-requires g c = let p = c.events.invariant c.requires.0 c.requires.1 in (p.w, p.stood)

pub events-init : goal.events-init
events-init g c = λ w s. record { w = w; stood = s; goes_on = λ v h. h }

pub events-preserved : goal.events-preserved
events-preserved g c = λ w s. playing_next c.args.room g.R.Key.Ord.cmp (g.R.Rules.machine c.args.rules.now) c.args.rules.now _ _ _ _ _ _ _ _ _ _ _ _ c.events-test.true c.event-item.is (c.events.invariant w s) c.in_ok-carry.ensures

pub returns : goal.returns
returns g c = λ w s. led_all c.args.room g.R.Key.Ord.cmp (g.R.Rules.machine c.args.rules.now) c.args.rules.now _ _ _ _ _ _ _ c.events-test.false (c.events.invariant w s)
