use Rattle.std.proofs.Common.{◌∙◌}
use Rattle.pq_session.specs.Labels.{label_model}
use Rattle.pq_session.specs.aux.Shown.{printed_report}
use Rattle.pq_session.proofs.EditorLemmas.{text_printed}
use Rattle.pq_session.proofs.PrintLemmas.{printed_reply}
use Rattle.pq_session.proofs.protocol.answers.diagnostics_text.Goals as goal

pub returns : goal.returns
returns c =
    let label = label_model c.args.label.now in
    let d = printed_report c.args.reader c.args.looked.now c.args.diagnosed.now c.args.revision in
    c.into_string.ensures
    ∙ printed_reply label d c.in_ok-out.out c.print_start.new.out c.print_report.new.out c.end_object.new.self c.in_ok-out.ensures c.in_ok-print_start.ensures c.in_ok-print_report.ensures c.in_ok-end_object.ensures
    ∙ text_printed label c.args.reader c.args.looked.now c.args.diagnosed.now c.args.revision
