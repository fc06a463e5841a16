use Rattle.pq_core.proofs.Trays.{empty_kept}
use Rattle.pq_core.proofs.lanes.lane.Lane.with_places.Goals as goal

pub invariant_of-result : goal.invariant_of-result
invariant_of-result g c = rw c.places.invariant (empty_kept _ _ _ _ c.requires)
