use Rattle.std.proofs.lemmas.Result.{IfOk-weaker}
use Rattle.pq_checks.specs.Faults.{message_table, enumeration_table}
use Rattle.pq_checks.specs.aux.Spots.{sited_in}
use Rattle.pq_checks.proofs.Joined.{table_in_turn}
use Rattle.pq_checks.proofs.lines.member_lines.push_member_faults.Goals as goal

pub returns : goal.returns
returns c =
    let all = sited_in c.args.spots.now in
    record {
      said = IfOk-weaker c.push_enumeration_faults.result _ _ (λ _ h. table_in_turn (message_table all) (enumeration_table all) c.args.faults.now.items c.push_message_faults.new.faults.items c.push_enumeration_faults.new.faults.items c.in_ok-push_message_faults.ensures h) c.push_enumeration_faults.ensures;
    }
