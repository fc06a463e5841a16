use Rattle.std.proofs.Common.{◌≡◌, ◌++◌, map, drop}
use Rattle.std.specs.List.{enumerate_from}
use Rattle.pq_checks.specs.Members.{reserved_range}
use Rattle.pq_checks.specs.aux.Spots.{seen}
use Rattle.pq_checks.proofs.tree.members.push_ranges.Given as goal

abbrev pub invariant-each : goal.invariant-each
invariant-each l =
    l.reserved.items ++ map (reserved_range (seen l.spot)) (drop l.nth (enumerate_from 0 l.ranges))
    ≡ l.fn.reserved.items ++ map (reserved_range (seen l.spot)) (enumerate_from 0 l.ranges)
