use Rattle.std.proofs.Common.{ap, ◌∙◌, List, ℕ, Option}
use Rattle.pq_rules.specs.Turns.{text_at}
use Rattle.pq_rules.proofs.scratch.text_of.Goals as goal

pub returns-in-Some : goal.returns-in-Some
returns-in-Some g c =
    c.get.ensures ∙ ap (λ (file : Option (List ℕ)). text_at c.args.inputs.now.files file) (c.in-Some.ensures {u = tt}).file

pub returns-in-None : goal.returns-in-None
returns-in-None g c =
    ap (λ (file : Option (List ℕ)). text_at c.args.inputs.now.files file) (c.in-None.ensures {u = tt}).file
