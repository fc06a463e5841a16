use Rattle.std.proofs.Common.{◌≡◌, ◌++◌, drop}
use Rattle.std.specs.Prelude.{flat_map}
use Rattle.pq_checks.specs.aux.DiagnosticsTurns.{listed_at}
use Rattle.pq_checks.proofs.queries.diagnostics.placed.Given as goal

abbrev pub invariant-each : goal.invariant-each
invariant-each l = l.diagnostics.items ++ flat_map (listed_at l.nodes) (drop l.fault-index l.faults) ≡ flat_map (listed_at l.nodes) l.faults
