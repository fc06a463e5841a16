use Rattle.pq_checks.proofs.OneOrder.{ordered_in_order, members_in_order, only_in_order}
use Rattle.pq_checks.proofs.DiagnosticsInOrder.{diagnostics_exact, diagnostics_total}
use Rattle.pq_checks.proofs.laws.diagnostics_in_order.Goals as goal

pub returns-clause-ordered : goal.returns-clause-ordered
returns-clause-ordered c = ordered_in_order diagnostics_total

pub returns-clause-members : goal.returns-clause-members
returns-clause-members c = members_in_order diagnostics_total diagnostics_exact

pub returns-clause-only : goal.returns-clause-only
returns-clause-only c = only_in_order diagnostics_total diagnostics_exact
