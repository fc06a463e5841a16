use Rattle.std.proofs.Common.{◌∙◌}
use Rattle.pq_checks.specs.aux.DiagnosticsTurns.{listed_at}
use Rattle.pq_checks.proofs.Passes.{each_more, each_all}
use Rattle.pq_checks.proofs.Placed.{listed_is}
use Rattle.pq_checks.proofs.queries.diagnostics.placed.Goals as goal

pub each-preserved : goal.each-preserved
each-preserved c = each_more (listed_at c.args.nodes.now) _ _ _ _ _ _ c.each-test.true c.fault-item.is c.in_ok-push_placed.ensures.placed c.each.invariant

pub returns : goal.returns
returns c = record {
  placed = each_all (listed_at c.args.nodes.now) _ _ _ _ c.each-test.false c.each.invariant ∙ listed_is c.args.nodes.now c.args.faults.now;
}
