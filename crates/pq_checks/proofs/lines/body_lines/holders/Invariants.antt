use Rattle.std.proofs.Common.{map, take}
use Rattle.std.specs.Option.{option_cmp}
use Rattle.std.specs.Ordering.{nat_cmp}
use Rattle.pq_checks.specs.aux.Seen.{member_seen}
use Rattle.pq_checks.specs.aux.Sets.{Has, is_holder}
use Rattle.pq_checks.proofs.lines.body_lines.holders.Given as goal

abbrev pub invariant-each : goal.invariant-each
invariant-each l = Has (option_cmp nat_cmp) is_holder l.holders (take l.member-index (map member_seen l.members))
