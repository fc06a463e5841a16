use Rattle.std.proofs.Common.{drop}
use Rattle.pq_core.specs.Cores.{StandsFor}
use Rattle.pq_play.specs.World.{World, replies_of, own_point}
use Rattle.pq_play.specs.aux.Running.{done_of}
use Rattle.pq_play.specs.aux.Playing.{Stood, Playing}
use Rattle.pq_play.proofs.run.carry_all.Given as goal

abbrev pub invariant-events : goal.invariant-events
invariant-events g l = (w : World g.row.R-Key.Denot g.row.R-Value.Denot) → Stood g.R.Key.Ord.cmp (g.R.Rules.machine l.fn.rules) l.fn.rules l.fn.core.rules (StandsFor g.R.Key.Ord.cmp (g.R.Rules.machine l.fn.rules) own_point replies_of l.fn.core) w l.fn.sheet.seats.items (done_of l.fn.sheet.dones) → Playing l.fn.room g.R.Key.Ord.cmp (g.R.Rules.machine l.fn.rules) l.fn.rules l.events (drop l.event-index l.events) w l.core.rules (StandsFor g.R.Key.Ord.cmp (g.R.Rules.machine l.fn.rules) own_point replies_of l.core) l.sheet.seats.items (done_of l.sheet.dones)
