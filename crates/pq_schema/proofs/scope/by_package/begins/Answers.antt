use Rattle.std.proofs.lemmas.Str.Pattern.{starts_text}
use Rattle.pq_schema.proofs.scope.by_package.begins.Goals as goal

pub returns : goal.returns
returns c = record { is = starts_text c.starts_with.result c.args.start.now c.args.text.now c.starts_with.ensures.cases }
