use Rattle.std.proofs.Common.{ℕ, ◌<◌}
use Rattle.pq_core.specs.aux.Turns.{IsTurnOf}
use Rattle.pq_core.proofs.store.queue.place_of.Given as goal

abbrev pub invariant-loop-place : goal.invariant-loop-place
invariant-loop-place l = (at : ℕ) → at < l.place → IsTurnOf l.turns.items at l.client → ⊥
