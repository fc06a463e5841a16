-- The order of diagnostics: by start, end, code as it is printed, and message.
use Rattle.std.specs.Cmp.Lexicographic.{slice_cmp}
use Rattle.std.specs.Ordering.{ordering_then, nat_cmp}
use Rattle.std.specs.declared.cmp.Ordering.{Ordering}
use Rattle.pq_checks.specs.Codes.{code_text}
use Rattle.pq_checks.specs.declared.errors.diagnostic.Diagnostic.{Diagnostic}

-- `diagnostic_cmp a b` compares the diagnostics `a` and `b`: by their starts, then their ends, then
-- their codes as these are printed, then their messages
abbrev pub diagnostic_cmp : Diagnostic → Diagnostic → Ordering
diagnostic_cmp a b =
    ordering_then (nat_cmp a.start b.start)
    (ordering_then (nat_cmp a.end b.end)
    (ordering_then (slice_cmp nat_cmp (code_text a.code) (code_text b.code)) (slice_cmp nat_cmp a.text b.text)))
