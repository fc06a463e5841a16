use Rattle.std.proofs.Common.{subst}
use Rattle.pq_rules.specs.declared.turn.Answer.{Answer}
use Rattle.pq_rules.specs.Value.{Means}
use Rattle.pq_rules.specs.Turns.{over}
use Rattle.pq_rules.specs.aux.AnswerTable.{finished}
use Rattle.pq_rules.proofs.Finding.{given, grows_by, placed_within, placed_is}
use Rattle.pq_rules.proofs.scratch.read_input.Goals as goal

pub returns-clause-within : goal.returns-clause-within
returns-clause-within g c =
    placed_within c.in_ok-place.place c.in_ok-answer.answer c.args.found.now c.add.new.self c.assign.new.found
    c.in_ok-place.ensures.place c.in_ok-place.ensures.answers c.in_ok-assign.ensures.answers

pub returns-clause-means : goal.returns-clause-means
returns-clause-means g c b at =
    subst (λ (a : Answer g.row.R-Key.Denot g.row.R-Value.Denot). Means (over g.R.Key.Ord.cmp (g.R.Rules.machine c.args.rules.now) c.args.inputs.now.files) c.args.key.now a)
    (placed_is c.in_ok-place.place c.in_ok-answer.answer b c.args.found.now c.add.new.self c.assign.new.found
    c.in_ok-place.ensures.place c.in_ok-place.ensures.answers c.in_ok-assign.ensures.answers at)
    (c.in_ok-answer.ensures {u = tt})

pub returns-clause-grown : goal.returns-clause-grown
returns-clause-grown g c =
    grows_by (over g.R.Key.Ord.cmp (g.R.Rules.machine c.args.rules.now) c.args.inputs.now.files) (finished c.args.found.now) (finished c.assign.new.found)
    c.in_ok-copy.copy c.args.key.now c.in_ok-answer.answer (c.in_ok-copy.ensures {u = tt}).copy (c.in_ok-answer.ensures {u = tt})
    (given c.in_ok-copy.copy c.in_ok-place.place c.in_ok-answer.answer c.args.found.now c.add.new.self c.assign.new.found
    (c.in_ok-place.ensures.place) (c.in_ok-place.ensures.answers) c.in_ok-place.ensures.places c.in_ok-place.ensures.within
    (c.in_ok-assign.ensures.given))
