use Rattle.std.proofs.Common.{◌≡◌, ◌<◌, ℕ, slice_get, Some}
use Rattle.pq_core.specs.declared.store.account.Stage.TheVariants.{Collected}
use Rattle.pq_core.proofs.store.account.are_collected.Given as goal

abbrev pub invariant-loop-i : goal.invariant-loop-i
invariant-loop-i g l = (j : ℕ) → j < l.i → slice_get l.stages.items j ≡ Some Collected
