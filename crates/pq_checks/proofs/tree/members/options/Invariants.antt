use Rattle.std.proofs.Common.{◌≡◌, ◌++◌, map, drop}
use Rattle.std.specs.Prelude.{flat_map}
use Rattle.pq_checks.specs.Members.{option_at}
use Rattle.pq_checks.specs.aux.Seen.{opted_seen}
use Rattle.pq_checks.specs.aux.Spots.{in_spot}
use Rattle.pq_checks.proofs.tree.members.options.Given as goal

abbrev pub invariant-spots : goal.invariant-spots
invariant-spots l = map opted_seen l.options.items ++ flat_map (in_spot option_at) (drop l.i l.spots) ≡ flat_map (in_spot option_at) l.spots
