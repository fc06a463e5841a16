use Rattle.pq_checks.specs.Faults.{elsewhere_faults}
use Rattle.pq_checks.proofs.Passes.{each_more, each_all}
use Rattle.pq_checks.proofs.around.definition_lines.push_each_elsewhere.Goals as goal

pub definitions-preserved : goal.definitions-preserved
definitions-preserved c =
    each_more (elsewhere_faults c.args.others.now c.args.nodes.now) _ _ _ _ _ _ c.definitions-test.true c.definition-item.is
    c.in_ok-push_elsewhere.ensures.said c.definitions.invariant

pub returns : goal.returns
returns c = record { said = each_all (elsewhere_faults c.args.others.now c.args.nodes.now) _ _ _ _ c.definitions-test.false c.definitions.invariant }
