use Rattle.pq_checks.specs.Faults.{reference_faults}
use Rattle.pq_checks.proofs.Passes.{each_more, each_all}
use Rattle.pq_checks.proofs.around.reference_lines.push_reference_faults.Goals as goal

pub references-preserved : goal.references-preserved
references-preserved c =
    each_more (reference_faults c.args.nodes.now) _ _ _ _ _ _ c.references-test.true c.reference-item.is
    c.in_ok-push_reference.ensures.said c.references.invariant

pub returns : goal.returns
returns c = record { said = each_all (reference_faults c.args.nodes.now) _ _ _ _ c.references-test.false c.references.invariant }
