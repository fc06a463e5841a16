use Rattle.pq_checks.specs.Members.{reserved_range}
use Rattle.pq_checks.specs.aux.Spots.{seen}
use Rattle.pq_checks.proofs.Passes.{put_more, put_all, numbered_or, numbered_within, numbered_past}
use Rattle.pq_checks.proofs.tree.members.push_ranges.Goals as goal

pub each-preserved : goal.each-preserved
each-preserved c =
    let ranges = c.args.ranges.now in
    let i = c.each.nth in
    put_more (reserved_range (seen c.args.spot)) _ _ _ _ i _ (numbered_within ranges i c.each-test.true)
    (numbered_or ranges i _ c.each-test.true) c.in_ok-push.ensures.items c.each.invariant

pub returns : goal.returns
returns c = put_all (reserved_range (seen c.args.spot)) _ _ _ _ (numbered_past c.args.ranges.now c.each.nth c.each-test.false) c.each.invariant
