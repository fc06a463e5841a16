use Rattle.std.proofs.Common.{◌≡◌, ◌++◌, length}
use Rattle.pq_schema.proofs.names.spelled.Rest.pop.Given as goal

-- the bytes that are left are the same
abbrev pub invariant-pieces : goal.invariant-pieces
invariant-pieces l = l.self-inside.front ++ l.self-inside.text.now ≡ l.initial.self-inside.front ++ l.initial.self-inside.text.now

abbrev pub decreases-pieces : goal.decreases-pieces
decreases-pieces l = length l.self-inside.front
