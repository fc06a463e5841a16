use Rattle.std.proofs.Common.{◌≤◌, drop, length}
use Rattle.pq_checks.specs.aux.Imports.{IsStateMap}
use Rattle.pq_checks.proofs.around.import_lines.states_of.Given as goal

abbrev pub invariant-files : goal.invariant-files
invariant-files l = record {
  within : l.left ≤ length l.imported;
  states : IsStateMap l.states (drop l.left l.imported);
}

abbrev pub decreases-files : goal.decreases-files
decreases-files l = l.left
