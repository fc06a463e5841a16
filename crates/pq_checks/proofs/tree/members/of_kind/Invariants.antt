use Rattle.std.proofs.Common.{◌≡◌, ◌++◌, drop}
use Rattle.std.specs.Prelude.{flat_map}
use Rattle.pq_checks.specs.Members.{of_kind_at}
use Rattle.pq_checks.specs.aux.Spots.{in_spot}
use Rattle.pq_checks.proofs.tree.members.of_kind.Given as goal

abbrev pub invariant-spots : goal.invariant-spots
invariant-spots l = l.items.items ++ flat_map (in_spot (of_kind_at l.kind)) (drop l.i l.spots) ≡ flat_map (in_spot (of_kind_at l.kind)) l.spots
