use Rattle.std.proofs.Common.{◌≡◌, ◌++◌, drop}
use Rattle.std.specs.Prelude.{flat_map}
use Rattle.pq_checks.specs.aux.Seen.{constants_in}
use Rattle.pq_checks.proofs.lines.unread_lines.push_all_constants.Given as goal

abbrev pub invariant-spots : goal.invariant-spots
invariant-spots l = l.faults.items ++ flat_map constants_in (drop l.i l.spots) ≡ l.fn.faults.items ++ flat_map constants_in l.spots
