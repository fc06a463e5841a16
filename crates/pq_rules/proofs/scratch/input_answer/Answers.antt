use Rattle.std.proofs.Common.{ap, ◌∙◌, List, ℕ, Option}
use Rattle.pq_rules.specs.Turns.{over}
use Rattle.pq_rules.proofs.Characterisation.{means_input}
use Rattle.pq_rules.proofs.scratch.input_answer.Goals as goal

pub returns : goal.returns
returns g c =
    means_input (over g.R.Key.Ord.cmp (g.R.Rules.machine c.args.rules.now) c.args.inputs.now.files) c.args.key.now c.in_ok-value.value
    c.requires ((c.in_ok-value.ensures {u = tt}).value ∙ ap (λ (t : Option (List ℕ)). (g.R.Rules.machine c.args.rules.now).text t) c.text_of.ensures)
