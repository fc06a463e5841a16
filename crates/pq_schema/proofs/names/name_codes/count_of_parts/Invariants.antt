use Rattle.std.proofs.Common.{◌≡◌, ◌%◌, ◌^◌, length, take}
use Rattle.std.specs.List.{concat}
use Rattle.pq_schema.proofs.names.name_codes.count_of_parts.Given as goal

-- the bytes of the parts so far
abbrev pub invariant-parts : goal.invariant-parts
invariant-parts l = l.count ≡ length (concat (take l.i l.parts)) % 2 ^ 64
