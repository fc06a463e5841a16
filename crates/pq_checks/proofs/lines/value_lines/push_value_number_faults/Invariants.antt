use Rattle.std.proofs.Common.{◌≡◌, ◌++◌, [], map, take, drop}
use Rattle.std.specs.Option.{option_cmp}
use Rattle.std.specs.Ordering.{nat_cmp}
use Rattle.pq_checks.specs.Earlier.{of_each_after}
use Rattle.pq_checks.specs.Faults.{value_number_faults}
use Rattle.pq_checks.specs.Numbers.{enum_limits}
use Rattle.pq_checks.specs.aux.Lines.{key_cmp}
use Rattle.pq_checks.specs.aux.Seen.{member_seen, opted_seen}
use Rattle.pq_checks.specs.aux.Sets.{Has, is_number, is_owner}
use Rattle.pq_checks.proofs.lines.value_lines.push_value_number_faults.Given as goal

abbrev pub invariant-each : goal.invariant-each
invariant-each l = record {
  said : l.faults.items ++ of_each_after (value_number_faults l.reserved (map opted_seen l.options)) (take l.value-index (map member_seen l.values)) (drop l.value-index (map member_seen l.values))
      ≡ l.fn.faults.items ++ of_each_after (value_number_faults l.reserved (map opted_seen l.options)) [] (map member_seen l.values);
  keys : Has key_cmp (is_number enum_limits) l.seen (take l.value-index (map member_seen l.values));
  owners : Has (option_cmp nat_cmp) is_owner l.begun (take l.value-index (map member_seen l.values));
}
