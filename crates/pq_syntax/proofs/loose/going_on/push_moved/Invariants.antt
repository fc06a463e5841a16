use Rattle.std.proofs.Common.{◌≡◌, ◌++◌, drop, map}
use Rattle.pq_syntax.specs.Loose.{moved}
use Rattle.pq_syntax.proofs.loose.going_on.push_moved.Given as goal

abbrev pub invariant-loop-token : goal.invariant-loop-token
invariant-loop-token l = l.tokens.items ++ map (moved l.by) (drop l.token-index l.found) ≡ l.initial.tokens.items ++ map (moved l.by) l.found
