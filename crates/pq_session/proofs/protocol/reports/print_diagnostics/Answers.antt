use Rattle.std.proofs.Common.{List, ◌++◌, sym, ap, ◌∙◌}
use Rattle.json.specs.Token.{Token}
use Rattle.pq_checks.specs.declared.errors.diagnostic.Diagnostic.{Diagnostic}
use Rattle.pq_session.specs.aux.Shown.{shown_tokens}
use Rattle.pq_session.proofs.EditorLemmas.{values_shown}
use Rattle.pq_proto.proofs.ListSteps.{printed_all}
use Rattle.pq_session.proofs.protocol.reports.print_diagnostics.Goals as goal

pub returns : goal.returns
returns c =
    printed_all (λ (x : Diagnostic). shown_tokens c.args.reader c.args.looked.now c.args.file.now x) c.args.out.now c.diagnostics.out c.args.diagnostics.now c.diagnostics.diagnostic-index c.diagnostics-test.false c.diagnostics.invariant
    ∙ ap (λ (ts : List Token). c.args.out.now ++ ts) (sym (values_shown c.args.reader c.args.looked.now c.args.file.now c.args.diagnostics.now))
