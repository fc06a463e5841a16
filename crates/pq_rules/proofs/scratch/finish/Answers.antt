use Rattle.std.proofs.lemmas.Result.{IfOk-weaker}
use Rattle.pq_rules.proofs.Finding.{given}
use Rattle.pq_rules.proofs.scratch.finish.Goals as goal

pub returns-clause-given : goal.returns-clause-given
returns-clause-given g c =
    IfOk-weaker c.assign.result _ _ (λ _ gives.
    given c.args.key c.in_ok-place.place c.args.answer c.args.found.now c.add.new.self c.assign.new.found
    (c.in_ok-place.ensures.place) (c.in_ok-place.ensures.answers) c.in_ok-place.ensures.places c.in_ok-place.ensures.within
    gives) c.assign.ensures.given
