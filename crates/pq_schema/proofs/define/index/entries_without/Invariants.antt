use Rattle.pq_schema.specs.aux.Index.{AreEntries}
use Rattle.pq_schema.proofs.define.index.entries_without.Given as goal

abbrev pub invariant-places : goal.invariant-places
invariant-places l = AreEntries l.index.items l.definitions l.place
