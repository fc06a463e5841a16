use Rattle.std.proofs.Common.{◌≡◌, drop}
use Rattle.pq_proto.specs.Types.{referred}
use Rattle.pq_proto.proofs.descriptor.references.find.Given as goal

abbrev pub invariant-references : goal.invariant-references
invariant-references l = referred (drop l.reference-index l.references) l.item l.part ≡ referred l.fn.references l.item l.part
