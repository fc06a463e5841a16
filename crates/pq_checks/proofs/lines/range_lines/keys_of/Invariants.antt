use Rattle.std.proofs.Common.{◌≡◌, take}
use Rattle.std.specs.Prelude.{flat_map}
use Rattle.pq_checks.specs.aux.Lines.{stair_of}
use Rattle.pq_checks.proofs.lines.range_lines.keys_of.Given as goal

abbrev pub invariant-each : goal.invariant-each
invariant-each l = l.stairs.items ≡ flat_map stair_of (take l.range-index l.reserved)
