use Rattle.std.proofs.Common.{◌<◌, ◌≤◌, ◌-◌, length, get_or}
use Rattle.pq_lex.specs.aux.Kept.{count_before}
use Rattle.pq_lex.proofs.lines.block_of.Given as goal

abbrev pub invariant-loop-low : goal.invariant-loop-low
invariant-loop-low l = record { ordered : l.low ≤ l.high; within : l.high ≤ length l.counts; before : count_before l.counts l.low ≤ l.column; last : l.high < length l.counts → l.column < get_or l.counts l.high 0 }

abbrev pub decreases-loop-low : goal.decreases-loop-low
decreases-loop-low l = l.high - l.low
