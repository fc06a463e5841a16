use Rattle.pq_schema.proofs.BadFiles.{ring_bad}
use Rattle.pq_schema.proofs.laws.rings_are_bad.Goals as goal

pub returns : goal.returns
returns c = record { bad = ring_bad }
