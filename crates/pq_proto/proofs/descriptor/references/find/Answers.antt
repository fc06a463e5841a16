use Rattle.std.proofs.Common.{sym, ◌∙◌}
use Rattle.pq_proto.proofs.ReferenceSteps.{referred_here, referred_later, referred_none}
use Rattle.pq_proto.proofs.descriptor.references.find.Goals as goal

pub returns-then-is_reference : goal.returns-then-is_reference
returns-then-is_reference c =
    let test = sym c.is_reference.ensures ∙ c.if-is_reference.true in
    sym c.references.invariant
    ∙ referred_here c.args.references.now c.args.item c.args.part c.references.reference-index c.reference-item.result c.references-test.true c.reference-item.is test

pub references-preserved : goal.references-preserved
references-preserved c =
    let test = sym c.is_reference.ensures ∙ c.if-is_reference.false in
    referred_later c.args.references.now c.args.item c.args.part c.references.reference-index c.reference-item.result c.references-test.true c.reference-item.is test
    ∙ c.references.invariant

pub returns : goal.returns
returns c =
    sym c.references.invariant ∙ referred_none c.args.references.now c.args.item c.args.part c.references.reference-index c.references-test.false
