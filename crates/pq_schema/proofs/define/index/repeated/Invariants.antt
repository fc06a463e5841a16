use Rattle.pq_schema.specs.aux.Index.{IsStart, AreMarked}
use Rattle.pq_schema.proofs.define.index.repeated.Given as goal

abbrev pub invariant-entries : goal.invariant-entries
invariant-entries l = IsStart l.index l.first l.i × AreMarked l.index l.definitions l.repeated.items l.i
