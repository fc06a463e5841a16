use Rattle.std.proofs.Common.{◌≡◌, [], ◌++◌, List, map, take, sym, subst, ap, ◌∙◌}
use Rattle.std.specs.Prelude.{flat_map}
use Rattle.pq_checks.specs.Earlier.{of_each_after}
use Rattle.pq_checks.specs.Faults.{field_number_faults}
use Rattle.pq_checks.specs.Numbers.{field_limits}
use Rattle.pq_checks.specs.aux.Cover.{is_covered, Climbs}
use Rattle.pq_checks.specs.aux.Lines.{Key, key_cmp, stair_of}
use Rattle.pq_checks.specs.aux.Seen.{member_seen}
use Rattle.pq_checks.specs.aux.Sets.{is_number}
use Rattle.pq_checks.specs.declared.errors.fault.Fault.{Fault}
use Rattle.pq_checks.proofs.Flags.{seen_at, seen_within, seen_past, field_lines_are}
use Rattle.pq_checks.proofs.Passes.{after_more, after_all}
use Rattle.pq_checks.proofs.Sets.{has_more, has_it}
use Rattle.pq_checks.proofs.Ties.{number_tied}
use Rattle.pq_checks.proofs.lines.field_lines.push_field_number_faults.Goals as goal

pub is_covered-covered-requires : goal.is_covered-covered-requires
is_covered-covered-requires c = subst (λ (s : List (Key × Key)). Climbs key_cmp s) (sym c.as_slice.ensures.value) c.in_ok-taken.ensures.climbs

pub each-preserved : goal.each-preserved
each-preserved c =
    let rs = c.args.reserved.now in
    let ms = map member_seen c.args.fields.now in
    let i = c.each.field-index in
    let x = c.field-item.result in
    let m = member_seen x in
    let z = c.field_number-number.result in
    let k : Key = (x.owner, z) in
    let number = c.field_number-number.ensures in
    let lt = seen_within member_seen c.args.fields.now i c.each-test.true in
    let at = seen_at member_seen c.args.fields.now i x c.each-test.true c.field-item.is in
    let again = has_it key_cmp (is_number field_limits) c.each.seen (take i ms) k c.in_ok-is_new.is_new c.in_ok-is_new.ensures.added c.each.invariant.keys in
    let covered : c.is_covered-covered.result ≡ is_covered key_cmp (flat_map stair_of rs) k =
    c.is_covered-covered.ensures ∙ ap (λ (s : List (Key × Key)). is_covered key_cmp s k) c.as_slice.ensures.value ∙ c.in_ok-taken.ensures.same k in
    record {
      said = after_more (field_number_faults rs) c.each.faults.items c.push_lines.new.faults.items (c.args.faults.now.items ++ of_each_after (field_number_faults rs) [] ms) ms i m lt at
          (c.in_ok-push_lines.ensures ∙ ap (λ (ys : List Fault). c.each.faults.items ++ ys) (field_lines_are rs (take i ms) m z _ _ number again covered)) c.each.invariant.said;
      keys = has_more key_cmp (is_number field_limits) c.each.seen c.insert.new.self ms i m k lt at (λ q. number_tied field_limits m z q number) c.in_ok-is_new.ensures.updates.0 c.each.invariant.keys;
    }

pub returns : goal.returns
returns c =
    let ms = map member_seen c.args.fields.now in
    let rs = c.args.reserved.now in
    after_all (field_number_faults rs) c.each.faults.items (c.args.faults.now.items ++ of_each_after (field_number_faults rs) [] ms) ms c.each.field-index
    (seen_past member_seen c.args.fields.now c.each.field-index c.each-test.false) c.each.invariant.said
