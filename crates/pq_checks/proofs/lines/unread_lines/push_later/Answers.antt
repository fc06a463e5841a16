use Rattle.pq_checks.specs.aux.Lines.{package_line}
use Rattle.pq_checks.proofs.Passes.{each_more_or, each_all}
use Rattle.pq_checks.proofs.lines.unread_lines.push_later.Goals as goal

pub later-preserved : goal.later-preserved
later-preserved c = each_more_or package_line _ _ _ _ _ 0 c.later-test.true c.in_ok-tell.ensures.said c.later.invariant

pub returns : goal.returns
returns c = each_all package_line _ _ _ _ c.later-test.false c.later.invariant
