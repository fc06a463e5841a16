use Rattle.std.proofs.Common.{◌≡◌, ℕ, Bool, List, ◌++◌, map, codes, ap, ◌∙◌}
use Rattle.pq_links.specs.declared.places.Part.TheVariants as part
use Rattle.pq_checks.specs.Faults.{at, when, quoted, is_reserved_name}
use Rattle.pq_checks.specs.Faults.{name_faults}
use Rattle.pq_checks.specs.aux.Seen.{member_seen, name_seen}
use Rattle.pq_checks.proofs.Passes.{seen_more, seen_all}
use Rattle.pq_checks.proofs.lines.name_lines.push_name_faults.Goals as goal

pub each-preserved : goal.each-preserved
each-preserved c =
    let names = map name_seen c.args.names.now in
    let x = c.member-item.result in
    let before = c.args.before.now in
    let name : c.as_str-name.result.now ≡ x.name.now.text = c.as_str-name.ensures.same in
    let holds : c.contains-holds.result ≡ is_reserved_name x.owner x.name.now.text names =
    c.contains-holds.ensures
    ∙ c.in_ok-reserved.ensures.names (x.owner, c.as_bytes.result)
    ∙ ap (λ (n : List ℕ). is_reserved_name x.owner n names) (c.as_bytes.ensures.value ∙ name) in
    seen_more (name_faults c.args.code before names) member_seen _ _ _ _ _ _ c.each-test.true c.member-item.is
    (c.in_ok-tell_name.ensures
    ∙ ap (λ (b : Bool). c.each.faults.items ++ when b (at x.item part.Name c.args.code (before ++ quoted c.as_str-name.result.now ++ codes " is reserved"))) holds
    ∙ ap (λ (n : List ℕ). c.each.faults.items ++ when (is_reserved_name x.owner x.name.now.text names) (at x.item part.Name c.args.code (before ++ quoted n ++ codes " is reserved"))) name)
    c.each.invariant

pub returns : goal.returns
returns c = seen_all (name_faults c.args.code c.args.before.now (map name_seen c.args.names.now)) member_seen _ _ _ _ c.each-test.false c.each.invariant
