use Rattle.std.proofs.Common.{Bool, ◌++◌, get_or, map, not, ap, ◌∙◌}
use Rattle.std.specs.Prelude.{Some}
use Rattle.pq_links.specs.declared.places.Part.TheVariants as part
use Rattle.pq_checks.specs.Faults.{at, when}
use Rattle.pq_checks.specs.Faults.{body_faults}
use Rattle.pq_checks.specs.aux.Seen.{member_seen}
use Rattle.pq_checks.proofs.Passes.{each_more_or, each_all}
use Rattle.pq_checks.proofs.lines.body_lines.push_body_faults.Goals as goal

pub each-preserved : goal.each-preserved
each-preserved c =
    let ms = map member_seen c.args.members.now in
    let x = get_or c.args.bodies.now c.each.body-index 0 in
    let text = c.args.text.now in
    let has = c.contains-has_member.ensures ∙ c.in_ok-holders.ensures.holders (Some x) in
    each_more_or (body_faults c.args.code text ms) _ _ _ _ _ 0 c.each-test.true
    (c.in_ok-tell_if.ensures ∙ ap (λ (b : Bool). c.each.faults.items ++ when (not b) (at x part.Name c.args.code text)) has) c.each.invariant

pub returns : goal.returns
returns c = each_all (body_faults c.args.code c.args.text.now (map member_seen c.args.members.now)) _ _ _ _ c.each-test.false c.each.invariant
