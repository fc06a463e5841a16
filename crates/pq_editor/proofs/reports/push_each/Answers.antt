use Rattle.std.proofs.Common.{List, ◌++◌, refl}
use Rattle.std.specs.Prelude.{codes, string_bytes}
use Rattle.pq_editor.specs.Reports.{file_text, later_text}
use Rattle.pq_editor.specs.declared.reports.FileReport.{FileReport}
use Rattle.pq_editor.proofs.Gathering.{gathered_more}
use Rattle.pq_editor.proofs.reports.push_each.Goals as goal

pub reports-preserved : goal.reports-preserved
reports-preserved c =
    gathered_more later_text (string_bytes c.args.out.now ++ later_text c.args.reports.now) (string_bytes c.reports.out) (codes "," ++ file_text c.report-item.result) (string_bytes c.push_later.new.out)
    c.args.reports.now c.reports.report-index c.report-item.result
    c.reports-test.true c.report-item.is (λ (rest : List FileReport). refl) c.in_ok-push_later.ensures c.reports.invariant
