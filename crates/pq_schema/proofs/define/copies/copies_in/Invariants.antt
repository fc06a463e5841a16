use Rattle.std.proofs.Common.{ℕ, List}
use Rattle.pq_schema.proofs.NumberedNames.{IsWalk}
use Rattle.pq_schema.proofs.define.copies.copies_in.Given as goal

abbrev pub invariant-items : goal.invariant-items
invariant-items l = (root : List ℕ) → IsWalk root l.nodes l.stack l.item l.numbering
