use Rattle.std.proofs.Common.{◌≡◌, ◌++◌, length}
use Rattle.std.specs.List.{concat}
use Rattle.pq_schema.proofs.names.spelled.Front.split_last.Given as goal

-- the pieces that are left spell the name
abbrev pub invariant-parts : goal.invariant-parts
invariant-parts l = l.fn.self ≡ l.head ++ concat l.parts

abbrev pub decreases-parts : goal.decreases-parts
decreases-parts l = length l.parts
