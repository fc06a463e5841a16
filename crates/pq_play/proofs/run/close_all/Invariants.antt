use Rattle.pq_core.specs.Cores.{StandsFor}
use Rattle.pq_play.specs.World.{World, replies_of, own_point}
use Rattle.pq_play.specs.aux.Running.{done_of}
use Rattle.pq_play.specs.aux.Playing.{Stood, Closing}
use Rattle.pq_play.proofs.run.close_all.Given as goal

abbrev pub invariant-clients : goal.invariant-clients
invariant-clients g l = (w : World g.row.R-Key.Denot g.row.R-Value.Denot) → Stood g.R.Key.Ord.cmp (g.R.Rules.machine l.fn.rules) l.fn.rules l.fn.core.rules (StandsFor g.R.Key.Ord.cmp (g.R.Rules.machine l.fn.rules) own_point replies_of l.fn.core) w l.fn.sheet.seats.items (done_of l.fn.sheet.dones) → Closing g.R.Key.Ord.cmp (g.R.Rules.machine l.fn.rules) l.fn.rules w l.core.rules (StandsFor g.R.Key.Ord.cmp (g.R.Rules.machine l.fn.rules) own_point replies_of l.core) l.sheet.seats.items (done_of l.sheet.dones) l.place
