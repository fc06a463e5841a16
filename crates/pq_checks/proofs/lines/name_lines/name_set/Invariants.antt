use Rattle.std.proofs.Common.{map, take}
use Rattle.pq_checks.specs.aux.Lines.{name_cmp}
use Rattle.pq_checks.specs.aux.Seen.{name_seen}
use Rattle.pq_checks.specs.aux.Sets.{Has, is_name}
use Rattle.pq_checks.proofs.lines.name_lines.name_set.Given as goal

abbrev pub invariant-each : goal.invariant-each
invariant-each l = Has name_cmp is_name l.set (take l.i (map name_seen l.names))
