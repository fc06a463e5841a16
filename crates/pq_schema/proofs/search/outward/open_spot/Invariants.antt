use Rattle.std.proofs.Common.{◌≡◌, ◌++◌, drop}
use Rattle.std.specs.Prelude.{find}
use Rattle.pq_schema.specs.Resolution.{meaning}
use Rattle.pq_schema.specs.aux.Outward.{opens}
use Rattle.pq_schema.proofs.search.outward.open_spot.Given as goal

-- none of the spots so far has the name
abbrev pub invariant-spots : goal.invariant-spots
invariant-spots l =
    find (λ s. opens (meaning l.files (s ++ l.name))) l.spots ≡ find (λ s. opens (meaning l.files (s ++ l.name))) (drop l.spot-index l.spots)
