use Rattle.std.proofs.Common.{◌≡◌, ◌++◌, drop}
use Rattle.std.specs.Prelude.{flat_map}
use Rattle.pq_checks.specs.aux.Lines.{package_line}
use Rattle.pq_checks.proofs.lines.unread_lines.push_later.Given as goal

abbrev pub invariant-later : goal.invariant-later
invariant-later l = l.faults.items ++ flat_map package_line (drop l.package-index l.later) ≡ l.fn.faults.items ++ flat_map package_line l.later
