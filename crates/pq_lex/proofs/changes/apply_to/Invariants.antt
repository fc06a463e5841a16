use Rattle.std.proofs.Common.{◌≡◌, drop, Some}
use Rattle.pq_lex.specs.TextChanges.{apply}
use Rattle.pq_lex.proofs.changes.apply_to.Given as goal

abbrev pub invariant-changes : goal.invariant-changes
invariant-changes l = apply (Some l.so_far) (drop l.k l.changes) ≡ apply (Some l.text) l.changes
