use Rattle.std.proofs.Common.{List, ◌++◌, ap, ◌∙◌}
use Rattle.json.specs.Print.{print}
use Rattle.json.specs.Token.{Token}
use Rattle.pq_session.specs.Labels.{label_model}
use Rattle.pq_session.specs.aux.Starts.{start_tokens}
use Rattle.pq_session.proofs.PrintLemmas.{start_text}
use Rattle.pq_session.proofs.protocol.results.result_start.Goals as goal

pub returns : goal.returns
returns c =
    let label = label_model c.args.label.now in
    let printed = c.in_ok-print_start.ensures ∙ ap (λ (ts : List Token). ts ++ start_tokens label) c.new-out.ensures in
    c.into_string.ensures ∙ ap print printed ∙ start_text label
