use Rattle.std.proofs.Common.{List, map, ap, ◌∙◌, codes}
use Rattle.std.proofs.lemmas.Result.{IfOk-weaker}
use Rattle.pq_checks.specs.Faults.{name_faults}
use Rattle.pq_checks.specs.aux.Seen.{member_seen, opted_seen}
use Rattle.pq_checks.specs.declared.errors.code.Code.TheVariants as code
use Rattle.pq_checks.specs.declared.tree.members.Member.{Member}
use Rattle.pq_checks.specs.declared.tree.members.Opted.{Opted}
use Rattle.pq_checks.proofs.Joined.{in_turn, last_turn, looked_up}
use Rattle.pq_checks.proofs.lines.member_lines.push_enumeration_faults.Goals as goal

pub returns : goal.returns
returns c =
    let values = ap (λ (xs : List Member). map member_seen xs) c.as_slice-values.ensures.value ∙ c.in_ok-values.ensures.values in
    let enums = c.as_slice-enums.ensures.value ∙ c.in_ok-enums.ensures.items in
    let options = ap (λ (xs : List Opted). map opted_seen xs) c.as_slice-options.ensures.value ∙ c.in_ok-options.ensures.options in
    let one = c.push_body_faults.new.faults.items in
    let two = c.push_value_number_faults.new.faults.items in
    let last = c.push_name_faults.new.faults.items in
    IfOk-weaker c.push_name_faults.result _ _ (λ _ h.
    in_turn c.args.faults.now.items one last _ _ (rw (values, enums) at c.in_ok-push_body_faults.ensures)
    (in_turn one two last _ _ (rw (values, options, c.requires.ranges) at c.in_ok-push_value_number_faults.ensures)
    (last_turn two last _ (looked_up (name_faults code.EnumValueNameReserved (codes "enum value name ")) two last c.requires.names values h)))) c.push_name_faults.ensures
