use Rattle.std.proofs.Common.{◌≡◌, take}
use Rattle.pq_core.proofs.values.request.copy_changes.Given as goal

abbrev pub invariant-changes : goal.invariant-changes
invariant-changes l = l.copies.items ≡ take l.change-index l.changes
