use Rattle.std.proofs.Common.{drop}
use Rattle.pq_schema.specs.aux.Inside.{AreThere}
use Rattle.pq_schema.proofs.queries.resolved.is_missing.Given as goal

-- none of the uses so far is nothing
abbrev pub invariant-uses : goal.invariant-uses
invariant-uses l = AreThere (drop l.one-index l.uses) → AreThere l.uses
