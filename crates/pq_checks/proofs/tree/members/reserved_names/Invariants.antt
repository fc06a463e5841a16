use Rattle.std.proofs.Common.{◌≡◌, ◌++◌, map, drop}
use Rattle.std.specs.Prelude.{flat_map}
use Rattle.pq_checks.specs.Members.{name_at}
use Rattle.pq_checks.specs.aux.Seen.{name_seen}
use Rattle.pq_checks.specs.aux.Spots.{in_spot}
use Rattle.pq_checks.proofs.tree.members.reserved_names.Given as goal

abbrev pub invariant-spots : goal.invariant-spots
invariant-spots l = map name_seen l.names.items ++ flat_map (in_spot name_at) (drop l.i l.spots) ≡ flat_map (in_spot name_at) l.spots
