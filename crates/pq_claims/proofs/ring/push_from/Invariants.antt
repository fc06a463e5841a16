use Rattle.std.proofs.Common.{◌≡◌, ◌++◌, drop}
use Rattle.pq_claims.proofs.ring.push_from.Given as goal

abbrev pub invariant-more : goal.invariant-more
invariant-more g l = l.keys.items ++ drop l.i l.more ≡ l.fn.keys.items ++ drop l.from l.more
