use Rattle.std.proofs.Common.{◌≡◌, ◌++◌, [], map, take, drop}
use Rattle.pq_checks.specs.Earlier.{of_each_after}
use Rattle.pq_checks.specs.Faults.{field_number_faults}
use Rattle.pq_checks.specs.Numbers.{field_limits}
use Rattle.pq_checks.specs.aux.Lines.{key_cmp}
use Rattle.pq_checks.specs.aux.Seen.{member_seen}
use Rattle.pq_checks.specs.aux.Sets.{Has, is_number}
use Rattle.pq_checks.proofs.lines.field_lines.push_field_number_faults.Given as goal

abbrev pub invariant-each : goal.invariant-each
invariant-each l = record {
  said : l.faults.items ++ of_each_after (field_number_faults l.reserved) (take l.field-index (map member_seen l.fields)) (drop l.field-index (map member_seen l.fields))
      ≡ l.fn.faults.items ++ of_each_after (field_number_faults l.reserved) [] (map member_seen l.fields);
  keys : Has key_cmp (is_number field_limits) l.seen (take l.field-index (map member_seen l.fields));
}
