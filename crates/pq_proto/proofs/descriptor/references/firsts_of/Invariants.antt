use Rattle.pq_proto.proofs.FirstSteps.{KnownFrom}
use Rattle.pq_proto.proofs.descriptor.references.firsts_of.Given as goal

abbrev pub invariant-references : goal.invariant-references
invariant-references l = KnownFrom l.references l.part l.count l.index l.firsts.items

abbrev pub decreases-references : goal.decreases-references
decreases-references l = l.index
