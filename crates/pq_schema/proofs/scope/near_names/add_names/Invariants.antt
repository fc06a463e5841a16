use Rattle.pq_schema.proofs.NearNames.{SoFar}
use Rattle.pq_schema.proofs.scope.near_names.add_names.Given as goal

abbrev pub invariant-entries : goal.invariant-entries
invariant-entries l = SoFar l.fn.names.items l.names.items l.index l.place l.at
