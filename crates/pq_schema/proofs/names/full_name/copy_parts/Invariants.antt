use Rattle.std.proofs.Common.{◌≡◌, ◌++◌, drop}
use Rattle.pq_schema.proofs.names.full_name.copy_parts.Given as goal

abbrev pub invariant-parts : goal.invariant-parts
invariant-parts l = l.copies.items ++ drop l.part-index l.parts ≡ l.parts
