use Rattle.std.proofs.Common.{◌≡◌, drop, option_copied, string_bytes}
use Rattle.std.specs.Option.{option_map}
use Rattle.pq_lex.specs.TextChanges.{apply}
use Rattle.pq_lex.proofs.changes.apply_few.Given as goal

abbrev pub invariant-changes : goal.invariant-changes
invariant-changes l = apply (option_map string_bytes l.so_far) (drop l.k l.changes) ≡ apply (option_copied l.text) l.changes
