use Rattle.std.proofs.Common.{◌≡◌, ◌++◌, drop}
use Rattle.std.specs.Prelude.{flat_map}
use Rattle.pq_checks.specs.Faults.{extend_faults}
use Rattle.pq_checks.proofs.lines.unread_lines.push_extends.Given as goal

abbrev pub invariant-extends : goal.invariant-extends
invariant-extends l = l.faults.items ++ flat_map extend_faults (drop l.extend-index l.extends) ≡ l.fn.faults.items ++ flat_map extend_faults l.extends
