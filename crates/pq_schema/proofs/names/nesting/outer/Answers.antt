use Rattle.std.proofs.Common.{lit<}
use Rattle.std.proofs.lemmas.Str.Pattern.{NoCharPasses-char}
use Rattle.pq_schema.proofs.Prefixes.{no_dot, outer_prefixes}
use Rattle.pq_schema.proofs.names.nesting.outer.Goals as goal

pub returns-in-Some-clause-prefixes : goal.returns-in-Some-clause-prefixes
returns-in-Some-clause-prefixes c =
    outer_prefixes c.args.scope.now c.in-Some.outer.now c.in-Some.field-0-1.now c.in-Some.ensures.cases

pub returns-in-None-clause-prefixes : goal.returns-in-None-clause-prefixes
returns-in-None-clause-prefixes c =
    no_dot c.args.scope.now (λ i l. NoCharPasses-char 46 c.args.scope.now i c.in-None.ensures.cases (lit< tt) l)
