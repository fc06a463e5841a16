use Rattle.pq_syntax.proofs.TypesInOrder.{only_found}
use Rattle.pq_syntax.proofs.file.File.only_at.Goals as goal

pub returns : goal.returns
returns c = record {
  only = only_found c.args.self.now c.self.inside.nodes.items c.deref.result.now c.args.offset c.count_to.result c.saturating_sub.result
      c.deref.ensures.value c.self.view_is (c.self.invariant c.if-not-self.false) c.count_to.ensures.within c.count_to.ensures.low c.count_to.ensures.others
      c.saturating_sub.ensures;
}
