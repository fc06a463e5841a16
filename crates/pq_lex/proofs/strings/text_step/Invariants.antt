use Rattle.std.proofs.Common.{◌≡◌, ◌≤◌, ◌+◌, ◌-◌, ℕ, length, get_or}
use Rattle.pq_lex.specs.aux.Scan.{text_step}
use Rattle.pq_lex.proofs.strings.text_step.Given as goal

abbrev pub invariant-loop-at : goal.invariant-loop-at
invariant-loop-at l = record { fuel : ℕ; enough : length l.bytes ≤ l.at + fuel; goes : text_step (length l.bytes) (get_or l.bytes l.fn.start 0) l.fn.start l.bytes (l.fn.start + 1) ≡ text_step fuel (get_or l.bytes l.fn.start 0) l.fn.start l.bytes l.at }

abbrev pub decreases-loop-at : goal.decreases-loop-at
decreases-loop-at l = length l.bytes - l.at
