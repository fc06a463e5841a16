use Rattle.pq_view.proofs.Looking.{looked_enough}
use Rattle.pq_view.proofs.laws.what_was_looked_at_is_enough.Goals as goal

pub returns : goal.returns
returns c = record { enough = looked_enough }
