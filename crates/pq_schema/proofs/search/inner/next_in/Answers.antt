use Rattle.std.proofs.Common.{sym, ◌∙◌}
use Rattle.pq_schema.proofs.FullNames.{next_none, next_scope, next_some}
use Rattle.pq_schema.proofs.search.inner.next_in.Goals as goal

pub returns-then-not-is_empty : goal.returns-then-not-is_empty
returns-then-not-is_empty c = record {
  next = next_some c.args.scope.now c.args.name.now (sym c.is_empty.ensures ∙ c.if-not-is_empty.true);
}

pub returns-then-is_empty : goal.returns-then-is_empty
returns-then-is_empty c = record {
  next = next_none c.args.scope.now c.args.name.now (sym c.is_empty-2.ensures.is ∙ c.if-is_empty.true) (sym c.is_empty.ensures ∙ c.if-not-is_empty.false);
}

pub returns : goal.returns
returns c = record {
  next = next_scope c.args.scope.now c.args.name.now (sym c.is_empty-2.ensures.is ∙ c.if-is_empty.false);
}
