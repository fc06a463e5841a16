use Rattle.std.proofs.Common.{◌≡◌, drop}
use Rattle.pq_schema.specs.Resolution.{unless_type}
use Rattle.pq_schema.specs.aux.Hits.{found_at}
use Rattle.pq_schema.specs.aux.Outward.{in_spots}
use Rattle.pq_schema.proofs.search.outward.find_in_spots.Given as goal

-- the spots so far give `best`, which stays unless an outer one has a type
abbrev pub invariant-spots : goal.invariant-spots
invariant-spots l = in_spots l.files l.spots l.name ≡ unless_type (found_at l.best) (in_spots l.files (drop l.spot-index l.spots) l.name)
