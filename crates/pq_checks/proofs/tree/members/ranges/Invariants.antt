use Rattle.std.proofs.Common.{◌≡◌, ◌++◌, drop}
use Rattle.std.specs.Prelude.{flat_map}
use Rattle.pq_checks.specs.Members.{range_at}
use Rattle.pq_checks.specs.aux.Spots.{in_spot}
use Rattle.pq_checks.proofs.tree.members.ranges.Given as goal

abbrev pub invariant-spots : goal.invariant-spots
invariant-spots l = l.reserved.items ++ flat_map (in_spot range_at) (drop l.i l.spots) ≡ flat_map (in_spot range_at) l.spots
