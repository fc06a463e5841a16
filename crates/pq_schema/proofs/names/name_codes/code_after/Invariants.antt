use Rattle.std.proofs.Common.{◌≡◌, ◌-◌, length, take, reverse}
use Rattle.pq_schema.specs.aux.NameCodes.{code_from}
use Rattle.pq_schema.proofs.names.name_codes.code_after.Given as goal

-- the code so far, with the bytes that are left after it, is that of all that are taken
abbrev pub invariant-bytes : goal.invariant-bytes
invariant-bytes l = code_from l.code (take (l.taken - l.i) (reverse (take (length l.fn.text - l.i) l.fn.text))) ≡ code_from l.fn.code (take l.fn.most (reverse l.fn.text))
