use Rattle.pq_syntax.specs.aux.TypesRise.{RiseTo}
use Rattle.pq_syntax.proofs.file.types_rise.Given as goal

-- the statements so far come one after the other, and reach `reach` at most
abbrev pub invariant-nodes : goal.invariant-nodes
invariant-nodes l = RiseTo l.nodes l.i l.reach
