use Rattle.std.proofs.Common.{◌≡◌, ◌++◌, ℕ, List, length}
use Rattle.pq_schema.specs.aux.Spots.{IsPlain}
use Rattle.pq_schema.proofs.names.spelled.Spelled.scope.Given as goal

-- what was taken has no dot
abbrev pub invariant-bytes : goal.invariant-bytes
invariant-bytes l = (taken : List ℕ) × IsPlain taken × (l.self ≡ l.rest ++ taken)

abbrev pub decreases-bytes : goal.decreases-bytes
decreases-bytes l = length l.rest
