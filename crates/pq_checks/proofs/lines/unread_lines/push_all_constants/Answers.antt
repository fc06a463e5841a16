use Rattle.pq_checks.specs.aux.Seen.{constants_in}
use Rattle.pq_checks.proofs.Passes.{each_more, each_all}
use Rattle.pq_checks.proofs.lines.unread_lines.push_all_constants.Goals as goal

pub spots-preserved : goal.spots-preserved
spots-preserved c = each_more constants_in _ _ _ _ _ _ c.spots-test.true c.index-spots-i.is c.in_ok-push_constants.ensures c.spots.invariant

pub returns : goal.returns
returns c = each_all constants_in _ _ _ _ c.spots-test.false c.spots.invariant
