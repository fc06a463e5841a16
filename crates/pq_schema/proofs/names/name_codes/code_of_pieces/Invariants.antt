use Rattle.std.proofs.Common.{◌≡◌, ◌++◌, length, take, reverse}
use Rattle.std.specs.List.{concat}
use Rattle.pq_schema.specs.aux.NameCodes.{code_from, tail_code}
use Rattle.pq_schema.proofs.names.name_codes.code_of_pieces.Given as goal

-- the code so far, with the bytes that are left after it, is that of the whole
abbrev pub invariant-pieces : goal.invariant-pieces
invariant-pieces l =
    code_from l.code (take l.left (reverse ((l.head ++ concat l.parts) ++ l.text))) ≡ tail_code ((l.head ++ concat l.initial.parts) ++ l.initial.text)

abbrev pub decreases-pieces : goal.decreases-pieces
decreases-pieces l = length l.parts
