use Rattle.std.proofs.Common.{◌≡◌, ◌++◌, drop}
use Rattle.std.specs.Prelude.{string_bytes}
use Rattle.pq_editor.specs.Reports.{later_text}
use Rattle.pq_editor.proofs.reports.push_each.Given as goal

-- what is left completes the text
abbrev pub invariant-reports : goal.invariant-reports
invariant-reports l = string_bytes l.out ++ later_text (drop l.report-index l.reports) ≡ string_bytes l.fn.out ++ later_text l.reports
