use Rattle.std.proofs.Common.{◌≡◌, ◌++◌, take}
use Rattle.std.specs.Prelude.{flat_map}
use Rattle.pq_checks.specs.Faults.{range_faults}
use Rattle.pq_checks.proofs.lines.range_lines.push_range_faults.Given as goal

abbrev pub invariant-each : goal.invariant-each
invariant-each l = l.faults.items ≡ l.fn.faults.items ++ flat_map range_faults (take l.range-index l.reserved)
