use Rattle.std.proofs.Common.{◌≡◌, ◌+◌, length, take}
use Rattle.std.specs.List.{concat}
use Rattle.pq_schema.proofs.names.spelled.left_after.Given as goal

-- what is left, and the bytes of the parts so far
abbrev pub invariant-parts : goal.invariant-parts
invariant-parts l = l.left + length (concat (take l.i l.parts)) ≡ l.most
