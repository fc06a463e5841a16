use Rattle.std.proofs.Common.{◌≡◌, ◌++◌, map, drop}
use Rattle.std.specs.Prelude.{flat_map}
use Rattle.pq_checks.specs.Members.{import_at}
use Rattle.pq_checks.specs.aux.Seen.{import_seen}
use Rattle.pq_checks.specs.aux.Spots.{in_spot}
use Rattle.pq_checks.proofs.tree.members.imports.Given as goal

abbrev pub invariant-spots : goal.invariant-spots
invariant-spots l = map import_seen l.imports.items ++ flat_map (in_spot import_at) (drop l.i l.spots) ≡ flat_map (in_spot import_at) l.spots
