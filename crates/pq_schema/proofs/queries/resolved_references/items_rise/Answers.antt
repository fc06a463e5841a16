use Rattle.pq_schema.proofs.ItemRanges.{all_risen, risen_more}
use Rattle.pq_schema.proofs.queries.resolved_references.items_rise.Goals as goal

pub references-preserved : goal.references-preserved
references-preserved c =
    risen_more c.args.references.now c.references.reference-index c.references.last c.reference-item.result c.references-test.true c.reference-item.is
    c.if-reference-last.false c.references.invariant

pub returns : goal.returns
returns c = λ _. all_risen c.args.references.now c.references.reference-index c.references.last c.references-test.false c.references.invariant
