use Rattle.std.proofs.Common.{◌≡◌, ◌++◌, drop}
use Rattle.pq_schema.specs.aux.Inside.{resolved_uses}
use Rattle.pq_schema.proofs.queries.resolved.resolve_uses.Given as goal

abbrev pub invariant-uses : goal.invariant-uses
invariant-uses l = l.resolved.items ++ resolved_uses (drop l.i l.visible) l.reached l.i ≡ resolved_uses l.visible l.reached 0
