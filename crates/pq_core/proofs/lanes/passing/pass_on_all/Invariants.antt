use Rattle.pq_core.specs.aux.Passing.{PassesOn, made_in}
use Rattle.pq_core.proofs.lanes.passing.pass_on_all.Given as goal

abbrev pub invariant-replies : goal.invariant-replies
invariant-replies g l = PassesOn g.R.Key.Ord.cmp (g.R.Rules.machine l.initial.store.rules) g.M.Stamp.point g.O.Outbox.puts l.initial.store l.store l.initial.lanes l.lanes

abbrev pub decreases-replies : goal.decreases-replies
decreases-replies g l = made_in l.store
