use Rattle.std.proofs.Common.{◌≡◌, drop}
use Rattle.pq_core.proofs.store.account.drop_first.Given as goal

abbrev pub invariant-loop-i : goal.invariant-loop-i
invariant-loop-i g l = l.stages.items ≡ drop l.i l.initial.stages.items
