use Rattle.std.proofs.Common.{◌≡◌, ◌≤◌, ◌<◌, ◌-◌, ℕ, length, false}
use Rattle.pq_lex.specs.Tokens.{closes}
use Rattle.pq_lex.proofs.steps.close_at.Given as goal

abbrev pub invariant-loop-n : goal.invariant-loop-n
invariant-loop-n l = record { ordered : l.fn.from ≤ l.at; within : l.at ≤ length l.bytes; none : (k : ℕ) → l.fn.from ≤ k → k < l.at → closes l.bytes k ≡ false }

abbrev pub decreases-loop-n : goal.decreases-loop-n
decreases-loop-n l = length l.bytes - l.at
