use Rattle.std.proofs.Common.{◌≡◌, ◌++◌, map, drop}
use Rattle.std.specs.Prelude.{flat_map}
use Rattle.pq_checks.specs.Faults.{name_faults}
use Rattle.pq_checks.specs.aux.Seen.{member_seen, name_seen}
use Rattle.pq_checks.proofs.lines.name_lines.push_name_faults.Given as goal

abbrev pub invariant-each : goal.invariant-each
invariant-each l =
    l.faults.items ++ flat_map (name_faults l.code l.before (map name_seen l.names)) (map member_seen (drop l.member-index l.members))
    ≡ l.fn.faults.items ++ flat_map (name_faults l.code l.before (map name_seen l.names)) (map member_seen l.members)
