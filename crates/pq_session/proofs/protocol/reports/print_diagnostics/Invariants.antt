use Rattle.pq_checks.specs.declared.errors.diagnostic.Diagnostic.{Diagnostic}
use Rattle.pq_session.specs.aux.Shown.{shown_tokens}
use Rattle.pq_proto.proofs.ListSteps.{PrintedTo}
use Rattle.pq_session.proofs.protocol.reports.print_diagnostics.Given as goal

abbrev pub invariant-diagnostics : goal.invariant-diagnostics
invariant-diagnostics l =
    PrintedTo (λ (f : Diagnostic). shown_tokens l.fn.reader l.fn.looked l.fn.file f) l.fn.out l.out l.diagnostics l.diagnostic-index
