-- Errors at the spans of their places.
use Rattle.std.proofs.Common.{◌≡◌, List, [], ◌∷◌, ◌++◌, refl, ap, ◌∙◌}
use Rattle.std.specs.Prelude.{Option, Some, None, filter_map, flat_map}
use Rattle.std.specs.List.{cons_option}
use Rattle.pq_syntax.specs.declared.tree.Node.{Node}
use Rattle.pq_checks.specs.Diagnostics.{diagnostic_at}
use Rattle.pq_checks.specs.aux.DiagnosticsTurns.{listed_at}
use Rattle.pq_checks.specs.declared.errors.diagnostic.Diagnostic.{Diagnostic}
use Rattle.pq_checks.specs.declared.errors.fault.Fault.{Fault}

one_listed : (o : Option Diagnostic) (ds : List Diagnostic) → cons_option o [] ++ ds ≡ cons_option o ds
one_listed None ds = refl
one_listed (Some d) ds = refl

pub listed_is : (nodes : List Node) (fs : List Fault) → flat_map (listed_at nodes) fs ≡ filter_map (diagnostic_at nodes) fs
listed_is nodes [] = refl
listed_is nodes (f ∷ fs) =
    one_listed (diagnostic_at nodes f) (flat_map (listed_at nodes) fs) ∙ ap (λ (ds : List Diagnostic). cons_option (diagnostic_at nodes f) ds) (listed_is nodes fs)
