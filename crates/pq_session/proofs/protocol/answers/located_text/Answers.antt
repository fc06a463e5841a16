use Rattle.std.proofs.Common.{ap₂, ◌∙◌}
use Rattle.pq_lex.specs.declared.position.Position.{Position}
use Rattle.pq_frame.specs.Labels.{label_data}
use Rattle.serde_json.specs.Written.{compact_text}
use Rattle.pq_session.specs.Labels.{label_model}
use Rattle.pq_session.specs.Reply.{located_text, located_data, reply_data}
use Rattle.pq_session.proofs.PrintLemmas.{printed_reply}
use Rattle.pq_session.proofs.protocol.answers.located_text.Goals as goal

pub returns : goal.returns
unfolding located_text
returns c =
    let label = label_model c.args.label.now in
    let uri = c.args.uri.now in
    let d = located_data uri c.position-start.result c.position-end.result in
    c.into_string.ensures
    ∙ printed_reply label d c.new-out.result c.print_start.new.out c.print_location.new.out c.end_object.new.self c.new-out.ensures c.in_ok-print_start.ensures c.in_ok-print_location.ensures c.in_ok-end_object.ensures
    ∙ ap₂ (λ (p q : Position). compact_text (reply_data (label_data label) (located_data uri p q))) c.position-start.ensures c.position-end.ensures
