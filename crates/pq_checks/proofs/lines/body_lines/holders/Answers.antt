use Rattle.std.proofs.Common.{map}
use Rattle.std.specs.Option.{option_cmp}
use Rattle.std.specs.Ordering.{nat_cmp}
use Rattle.pq_checks.specs.aux.Seen.{member_seen}
use Rattle.pq_checks.specs.aux.Sets.{is_holder}
use Rattle.pq_checks.proofs.Flags.{seen_at, seen_within, seen_past}
use Rattle.pq_checks.proofs.Sets.{has_more, has_all}
use Rattle.pq_checks.proofs.Ties.{item_back}
use Rattle.pq_checks.proofs.lines.body_lines.holders.Goals as goal

pub each-preserved : goal.each-preserved
each-preserved c =
    let xs = c.args.members.now in
    let i = c.each.member-index in
    let x = c.member-item.result in
    has_more (option_cmp nat_cmp) is_holder c.each.holders c.insert.new.self (map member_seen xs) i (member_seen x) x.holder
    (seen_within member_seen xs i c.each-test.true) (seen_at member_seen xs i x c.each-test.true c.member-item.is) (λ q. item_back x.holder q) c.in_ok-insert.ensures.updates.0 c.each.invariant

pub returns : goal.returns
returns c = record {
  holders = has_all (option_cmp nat_cmp) is_holder c.each.holders (map member_seen c.args.members.now) c.each.member-index (seen_past member_seen c.args.members.now c.each.member-index c.each-test.false) c.each.invariant;
}
