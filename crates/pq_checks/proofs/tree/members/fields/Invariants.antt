use Rattle.std.proofs.Common.{◌≡◌, ◌++◌, map, drop}
use Rattle.std.specs.Prelude.{flat_map}
use Rattle.pq_checks.specs.Members.{field_at}
use Rattle.pq_checks.specs.aux.Seen.{member_seen}
use Rattle.pq_checks.specs.aux.Spots.{in_spot}
use Rattle.pq_checks.proofs.tree.members.fields.Given as goal

abbrev pub invariant-spots : goal.invariant-spots
invariant-spots l = map member_seen l.members.items ++ flat_map (in_spot field_at) (drop l.i l.spots) ≡ flat_map (in_spot field_at) l.spots
