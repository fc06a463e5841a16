use Rattle.std.proofs.Common.{sym}
use Rattle.pq_schema.proofs.scope.named.definition_at.Goals as goal

pub returns-then-is_apart_at : goal.returns-then-is_apart_at
returns-then-is_apart_at c =
    record {
      is = sym (c.requires.guides.apart c.args.place (c.is_apart_at.ensures.leaves c.if-is_apart_at.true) (c.is_apart_at.ensures.before c.if-is_apart_at.true));
    }

pub definition_alike-requires-clause-alike : goal.definition_alike-requires-clause-alike
definition_alike-requires-clause-alike c =
    λ f at. c.requires.guides.alike c.args.place c.alike_at.result c.alike_at.ensures.count c.alike_at.ensures.most f at
