use Rattle.std.proofs.Common.{◌≡◌, ◌++◌, drop}
use Rattle.std.specs.Prelude.{flat_map}
use Rattle.pq_checks.specs.Faults.{reference_faults}
use Rattle.pq_checks.proofs.around.reference_lines.push_reference_faults.Given as goal

abbrev pub invariant-references : goal.invariant-references
invariant-references l =
    l.faults.items ++ flat_map (reference_faults l.nodes) (drop l.reference-index l.references)
    ≡ l.fn.faults.items ++ flat_map (reference_faults l.nodes) l.references
