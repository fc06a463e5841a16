use Rattle.std.proofs.Common.{map}
use Rattle.pq_syntax.proofs.Walk.{Walked}
use Rattle.pq_checks.specs.aux.Spots.{outside, sited_by}
use Rattle.pq_checks.proofs.Spotting.{keep, emit}
use Rattle.pq_checks.proofs.tree.spots.spots.Given as goal

abbrev pub invariant-items : goal.invariant-items
invariant-items l = Walked keep outside emit l.nodes l.stack l.item (map sited_by l.spots.items)
