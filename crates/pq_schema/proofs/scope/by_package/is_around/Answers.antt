use Rattle.std.proofs.Common.{sym, ◌∙◌}
use Rattle.pq_schema.proofs.Around.{around_is}
use Rattle.pq_schema.proofs.scope.by_package.is_around.Goals as goal

pub returns : goal.returns
returns c = record {
  all = λ root is among. c.is_dotted.ensures.is ∙ around_is c.args.entry.now c.args.scope.now root is among c.if-entry-eq1.false (sym c.begins.ensures.is ∙ c.if-begins.false);
}
