use Rattle.std.proofs.Common.{◌≡◌, ◌++◌, map, drop}
use Rattle.std.specs.Prelude.{flat_map}
use Rattle.pq_checks.specs.Faults.{body_faults}
use Rattle.pq_checks.specs.aux.Seen.{member_seen}
use Rattle.pq_checks.proofs.lines.body_lines.push_body_faults.Given as goal

abbrev pub invariant-each : goal.invariant-each
invariant-each l =
    l.faults.items ++ flat_map (body_faults l.code l.text (map member_seen l.members)) (drop l.body-index l.bodies)
    ≡ l.fn.faults.items ++ flat_map (body_faults l.code l.text (map member_seen l.members)) l.bodies
