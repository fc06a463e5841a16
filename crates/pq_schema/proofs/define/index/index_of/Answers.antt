use Rattle.pq_schema.proofs.IndexLemmas.{entries_moved}
use Rattle.pq_schema.proofs.define.index.index_of.Goals as goal

pub returns : goal.returns
returns c = record {
  are = entries_moved c.args.definitions.now _ c.in_ok-index.index.items c.sort.new.self.items c.sort.ensures.permutation c.in_ok-index.ensures.entries;
  sorted = c.in_ok-sort.ensures.sorted;
}
