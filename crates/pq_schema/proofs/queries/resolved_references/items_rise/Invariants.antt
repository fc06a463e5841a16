use Rattle.pq_schema.proofs.ItemRanges.{RisenTo}
use Rattle.pq_schema.proofs.queries.resolved_references.items_rise.Given as goal

-- the items so far do not fall, and none is greater than the last
abbrev pub invariant-references : goal.invariant-references
invariant-references l = RisenTo l.references l.reference-index l.last
