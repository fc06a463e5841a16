use Rattle.std.proofs.Common.{◌≡◌, ◌++◌, drop}
use Rattle.std.specs.Prelude.{flat_map}
use Rattle.pq_checks.specs.Faults.{elsewhere_faults}
use Rattle.pq_checks.proofs.around.definition_lines.push_each_elsewhere.Given as goal

abbrev pub invariant-definitions : goal.invariant-definitions
invariant-definitions l =
    l.faults.items ++ flat_map (elsewhere_faults l.others l.nodes) (drop l.definition-index l.definitions)
    ≡ l.fn.faults.items ++ flat_map (elsewhere_faults l.others l.nodes) l.definitions
