use Rattle.pq_schema.proofs.NearNames.{AreAll}
use Rattle.pq_schema.proofs.scope.near_names.names_of.Given as goal

abbrev pub invariant-places : goal.invariant-places
invariant-places l = AreAll l.names.items l.files l.places l.place-index
