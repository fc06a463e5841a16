use Rattle.std.proofs.Common.{◌≡◌, ◌≤◌, ◌<◌, ◌-◌, ℕ, length, get_or, true}
use Rattle.pq_lex.specs.Classes.{in_set}
use Rattle.pq_lex.proofs.bytes.run_end.Given as goal

abbrev pub invariant-loop-at : goal.invariant-loop-at
invariant-loop-at l = record { ordered : l.fn.from ≤ l.at; within : l.at ≤ length l.bytes; all : (k : ℕ) → l.fn.from ≤ k → k < l.at → in_set l.set (get_or l.bytes k 0) ≡ true }

abbrev pub decreases-loop-at : goal.decreases-loop-at
decreases-loop-at l = length l.bytes - l.at
