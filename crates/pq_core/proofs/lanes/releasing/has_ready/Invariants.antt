use Rattle.pq_core.specs.aux.Resting.{LetsNext}
use Rattle.pq_core.specs.aux.Rising.{NoneOf}
use Rattle.pq_core.proofs.lanes.releasing.has_ready.Given as goal

abbrev pub invariant-loop-i : goal.invariant-loop-i
invariant-loop-i g l = NoneOf LetsNext l.lanes.items l.i
