use Rattle.std.proofs.Common.{◌∙◌}
use Rattle.serde_json.specs.Data.{string}
use Rattle.pq_session.proofs.PrintLemmas.{printed_alone}
use Rattle.pq_session.proofs.editor.published.json_string.Goals as goal

pub returns : goal.returns
returns c = c.into_string.ensures ∙ printed_alone (string c.args.text.now) c.new-out.result c.text.new.self c.new-out.ensures c.in_ok-text.ensures
