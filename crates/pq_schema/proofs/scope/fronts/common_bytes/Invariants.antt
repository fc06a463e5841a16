use Rattle.pq_schema.specs.aux.Fronts.{BothBegin}
use Rattle.pq_schema.proofs.scope.fronts.common_bytes.Given as goal

-- the bytes so far are the same
abbrev pub invariant-bytes : goal.invariant-bytes
invariant-bytes l = BothBegin l.at l.a l.b
