use Rattle.std.proofs.lemmas.Result.{IfOk-weaker}
use Rattle.pq_checks.proofs.Joined.{in_turn, last_turn}
use Rattle.pq_checks.proofs.queries.gathered.push_definitions.Goals as goal

pub returns : goal.returns
returns c =
    let one = c.push_twice_faults.new.faults.items in
    let last = c.push_elsewhere.new.faults.items in
    record {
      said = IfOk-weaker c.push_elsewhere.result _ _ (λ _ h. in_turn c.args.faults.now.items one last _ _ (rw (c.get.ensures.value) at c.in_ok-push_twice_faults.ensures.said)
          (last_turn one last _ h)) c.push_elsewhere.ensures.said;
    }
