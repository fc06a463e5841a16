-- Auxiliary: errors and diagnostics that compare as equal are equal, by the shape of their types
-- (used by proofs and invariants only).
use Rattle.std.specs.Cmp.{unsigned_Decides}
use Rattle.std.specs.Cmp.Lexicographic.{pointwise_decides, bytes_decides}
use Rattle.pq_syntax.proofs.Equality.{Told, one_field, fields, of_struct, of_bare}
use Rattle.pq_links.proofs.Equality.{parsed_file, part}
use Rattle.pq_checks.specs.contracts.errors.code as code
use Rattle.pq_checks.specs.contracts.errors.diagnostic as diagnostic
use Rattle.pq_checks.specs.contracts.errors.fault as fault

one_code : Told code.CodePartialEq.TheImpl.ghosts.eq
one_code = of_bare code.Code.the_type tt

-- an error
pub one_fault : Told fault.FaultPartialEq.TheImpl.ghosts.eq
one_fault =
    of_struct fault.Fault.struct fault.Fault.the_propositions
    (fields unsigned_Decides (fields part (fields one_code (one_field bytes_decides))))

one_diagnostic : Told diagnostic.DiagnosticPartialEq.TheImpl.ghosts.eq
one_diagnostic =
    of_struct diagnostic.Diagnostic.struct diagnostic.Diagnostic.the_propositions
    (fields unsigned_Decides (fields unsigned_Decides (fields one_code (one_field bytes_decides))))

-- the diagnostics of a file, with what it is read as
pub diagnosed : Told diagnostic.DiagnosedPartialEq.TheImpl.ghosts.eq
diagnosed =
    of_struct diagnostic.Diagnosed.struct diagnostic.Diagnosed.the_propositions
    (fields (pointwise_decides one_diagnostic) (one_field parsed_file))
