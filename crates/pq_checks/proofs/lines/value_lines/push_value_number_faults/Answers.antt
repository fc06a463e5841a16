use Rattle.std.proofs.Common.{◌≡◌, List, [], ◌++◌, not, map, take, sym, subst, ap, ◌∙◌}
use Rattle.std.specs.Prelude.{flat_map}
use Rattle.std.specs.Option.{option_cmp}
use Rattle.std.specs.Ordering.{nat_cmp}
use Rattle.pq_checks.specs.Earlier.{of_each_after}
use Rattle.pq_checks.specs.Faults.{value_number_faults, allows_alias, is_first}
use Rattle.pq_checks.specs.Numbers.{enum_limits}
use Rattle.pq_checks.specs.aux.Cover.{is_covered, Climbs}
use Rattle.pq_checks.specs.aux.Lines.{Key, key_cmp, stair_of}
use Rattle.pq_checks.specs.aux.Seen.{member_seen, opted_seen}
use Rattle.pq_checks.specs.aux.Sets.{is_number, is_owner}
use Rattle.pq_checks.specs.declared.errors.fault.Fault.{Fault}
use Rattle.pq_checks.proofs.Flags.{seen_at, seen_within, seen_past, value_lines_are}
use Rattle.pq_checks.proofs.Passes.{after_more, after_all}
use Rattle.pq_checks.proofs.Sets.{has_more, has_it}
use Rattle.pq_checks.proofs.Ties.{item_back, number_tied}
use Rattle.pq_checks.proofs.lines.value_lines.push_value_number_faults.Goals as goal

pub is_covered-covered-requires : goal.is_covered-covered-requires
is_covered-covered-requires c = subst (λ (s : List (Key × Key)). Climbs key_cmp s) (sym c.as_slice.ensures.value) c.in_ok-taken.ensures.climbs

pub each-preserved : goal.each-preserved
each-preserved c =
    let rs = c.args.reserved.now in
    let os = map opted_seen c.args.options.now in
    let ms = map member_seen c.args.values.now in
    let i = c.each.value-index in
    let x = c.value-item.result in
    let m = member_seen x in
    let z = c.enum_number-number.result in
    let k : Key = (x.owner, z) in
    let number = c.enum_number-number.ensures in
    let lt = seen_within member_seen c.args.values.now i c.each-test.true in
    let at = seen_at member_seen c.args.values.now i x c.each-test.true c.value-item.is in
    let first : c.in_ok-is_first.is_first ≡ is_first m (take i ms) = c.in_ok-is_first.ensures.added ∙ ap not (c.each.invariant.owners x.owner) in
    let again = has_it key_cmp (is_number enum_limits) c.each.seen (take i ms) k c.in_ok-is_new.is_new c.in_ok-is_new.ensures.added c.each.invariant.keys in
    let alias : c.allows-allowed.result ≡ allows_alias os x.owner = c.allows-allowed.ensures ∙ c.in_ok-aliases.ensures.allowed x.owner in
    let covered : c.is_covered-covered.result ≡ is_covered key_cmp (flat_map stair_of rs) k =
    c.is_covered-covered.ensures ∙ ap (λ (s : List (Key × Key)). is_covered key_cmp s k) c.as_slice.ensures.value ∙ c.in_ok-taken.ensures.same k in
    record {
      said = after_more (value_number_faults rs os) c.each.faults.items c.push_lines.new.faults.items (c.args.faults.now.items ++ of_each_after (value_number_faults rs os) [] ms) ms i m lt at
          (c.in_ok-push_lines.ensures ∙ ap (λ (ys : List Fault). c.each.faults.items ++ ys) (value_lines_are rs os (take i ms) m z _ _ _ _ number first again alias covered)) c.each.invariant.said;
      keys = has_more key_cmp (is_number enum_limits) c.each.seen c.insert-in-each.new.self ms i m k lt at (λ q. number_tied enum_limits m z q number) c.in_ok-is_new.ensures.updates.0 c.each.invariant.keys;
      owners = has_more (option_cmp nat_cmp) is_owner c.each.begun c.insert.new.self ms i m x.owner lt at (λ q. item_back x.owner q) c.in_ok-is_first.ensures.updates.0 c.each.invariant.owners;
    }

pub returns : goal.returns
returns c =
    let ms = map member_seen c.args.values.now in
    let rs = c.args.reserved.now in
    let os = map opted_seen c.args.options.now in
    after_all (value_number_faults rs os) c.each.faults.items (c.args.faults.now.items ++ of_each_after (value_number_faults rs os) [] ms) ms c.each.value-index
    (seen_past member_seen c.args.values.now c.each.value-index c.each-test.false) c.each.invariant.said
