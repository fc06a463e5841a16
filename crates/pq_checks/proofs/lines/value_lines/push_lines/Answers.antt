use Rattle.std.proofs.lemmas.Result.{IfOk-weaker}
use Rattle.pq_checks.proofs.Joined.{in_turn}
use Rattle.pq_checks.proofs.lines.value_lines.push_lines.Goals as goal

pub returns : goal.returns
returns c =
    let is_number = c.is_some-is_number.ensures in
    let one = c.tell_if.new.faults.items in
    let two = c.tell_if-2.new.faults.items in
    let three = c.tell_number.new.faults.items in
    let last = c.tell_number-2.new.faults.items in
    IfOk-weaker c.tell_number-2.result _ _ (λ _ h.
    in_turn c.args.faults.now.items three last _ _
    (in_turn c.args.faults.now.items two three _ _
    (in_turn c.args.faults.now.items one two _ _ (rw (c.both-wrong_first.ensures, c.is_zero-is_zero.ensures) at c.in_ok-tell_if.ensures) (rw (is_number) at c.in_ok-tell_if-2.ensures))
    (rw (c.both-twice.ensures, c.both.ensures, is_number) at c.in_ok-tell_number.ensures))
    (rw (c.both-reserved.ensures, is_number) at h)) c.tell_number-2.ensures
