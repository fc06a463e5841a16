use Rattle.pq_checks.specs.Faults.{extend_faults}
use Rattle.pq_checks.proofs.Passes.{each_more_or, each_all}
use Rattle.pq_checks.proofs.lines.unread_lines.push_extends.Goals as goal

pub extends-preserved : goal.extends-preserved
extends-preserved c = each_more_or extend_faults _ _ _ _ _ 0 c.extends-test.true c.in_ok-tell.ensures.said c.extends.invariant

pub returns : goal.returns
returns c = each_all extend_faults _ _ _ _ c.extends-test.false c.extends.invariant
