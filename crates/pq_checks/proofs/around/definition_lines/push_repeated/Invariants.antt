use Rattle.std.proofs.Common.{◌≡◌, ◌++◌, [], take, drop}
use Rattle.pq_checks.specs.Earlier.{of_each_after}
use Rattle.pq_checks.specs.Faults.{twice_faults}
use Rattle.pq_checks.proofs.around.definition_lines.push_repeated.Given as goal

abbrev pub invariant-each : goal.invariant-each
invariant-each l =
    l.faults.items ++ of_each_after twice_faults (take l.i l.definitions) (drop l.i l.definitions)
    ≡ l.fn.faults.items ++ of_each_after twice_faults [] l.definitions
