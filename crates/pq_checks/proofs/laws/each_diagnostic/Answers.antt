use Rattle.pq_checks.proofs.EachDiagnostic.{each_is_diagnostic}
use Rattle.pq_checks.proofs.laws.each_diagnostic.Goals as goal

pub returns : goal.returns
returns c = record { each = each_is_diagnostic }
