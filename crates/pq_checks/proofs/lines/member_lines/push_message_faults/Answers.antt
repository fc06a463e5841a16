use Rattle.std.proofs.Common.{List, map, ap, ◌∙◌, codes}
use Rattle.std.proofs.lemmas.Result.{IfOk-weaker}
use Rattle.pq_checks.specs.Faults.{name_faults}
use Rattle.pq_checks.specs.aux.Seen.{member_seen}
use Rattle.pq_checks.specs.declared.errors.code.Code.TheVariants as code
use Rattle.pq_checks.specs.declared.tree.members.Member.{Member}
use Rattle.pq_checks.proofs.Joined.{in_turn, last_turn, looked_up}
use Rattle.pq_checks.proofs.lines.member_lines.push_message_faults.Goals as goal

pub returns : goal.returns
returns c =
    let fields = ap (λ (xs : List Member). map member_seen xs) c.as_slice-fields.ensures.value ∙ c.in_ok-fields.ensures.fields in
    let oneofs = c.as_slice-oneofs.ensures.value ∙ c.in_ok-oneofs.ensures.items in
    let one = c.push_field_number_faults.new.faults.items in
    let two = c.push_name_faults.new.faults.items in
    let three = c.push_range_faults.new.faults.items in
    let last = c.push_body_faults.new.faults.items in
    IfOk-weaker c.push_body_faults.result _ _ (λ _ h.
    in_turn c.args.faults.now.items one last _ _ (rw (fields, c.requires.ranges) at c.in_ok-push_field_number_faults.ensures)
    (in_turn one two last _ _ (looked_up (name_faults code.FieldNameReserved (codes "field name ")) one two c.requires.names fields c.in_ok-push_name_faults.ensures)
    (in_turn two three last _ _ (rw (c.requires.ranges) at c.in_ok-push_range_faults.ensures)
    (last_turn three last _ (rw (fields, oneofs) at h))))) c.push_body_faults.ensures
