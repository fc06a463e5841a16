use Rattle.std.proofs.Common.{◌<◌, ◌≤◌, ◌-◌, length, get_or}
use Rattle.pq_lex.proofs.lines.line_of.Given as goal

abbrev pub invariant-loop-high : goal.invariant-loop-high
invariant-loop-high l = record { ordered : l.low < l.high; within : l.high ≤ length l.starts; before : get_or l.starts l.low 0 ≤ l.offset; last : l.high < length l.starts → l.offset < get_or l.starts l.high 0 }

abbrev pub decreases-loop-high : goal.decreases-loop-high
decreases-loop-high l = l.high - l.low
