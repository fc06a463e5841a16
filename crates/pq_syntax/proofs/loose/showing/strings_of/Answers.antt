use Rattle.std.proofs.lemmas.Result.{IfOk-weaker}
use Rattle.pq_syntax.proofs.SpannedNodes.{strings_of_all}
use Rattle.pq_syntax.proofs.loose.showing.strings_of.Goals as goal

pub returns : goal.returns
returns c = IfOk-weaker c.read_strings.result _ _ (λ x h. strings_of_all c.args.text.now c.args.tokens.now c.after-rest.result.now x c.after-rest.ensures h) c.read_strings.ensures
