use Rattle.std.proofs.Common.{List, ◌∙◌, ap}
use Rattle.std.specs.declared.cmp.Ordering.{Ordering}
use Rattle.pq_checks.specs.DiagnosticOrder.{diagnostic_cmp}
use Rattle.pq_checks.specs.InOrder.{in_order}
use Rattle.pq_checks.specs.declared.errors.diagnostic.Diagnostic.{Diagnostic}
use Rattle.pq_checks.proofs.DiagnosticsInOrder.{derived_exact, derived_is}
use Rattle.pq_checks.proofs.queries.diagnostics.in_order.Goals as goal

pub put_in_order-requires : goal.put_in_order-requires
put_in_order-requires c = record { exact = derived_exact }

pub returns : goal.returns
returns c = record {
  ordered = c.in_ok-put_in_order.ensures.ordered
      ∙ ap (λ (cmp : Diagnostic → Diagnostic → Ordering). in_order cmp c.in_ok-diagnostics.diagnostics.items) derived_is
      ∙ ap (λ (ds : List Diagnostic). in_order diagnostic_cmp ds) c.in_ok-diagnostics.ensures.placed;
}
