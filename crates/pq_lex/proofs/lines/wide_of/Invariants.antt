use Rattle.std.proofs.Common.{◌<◌, ◌≤◌, ◌-◌, ℕ, length, get_or}
use Rattle.pq_lex.specs.aux.Kept.{numbers_of}
use Rattle.pq_lex.proofs.lines.wide_of.Given as goal

abbrev pub invariant-loop-low : goal.invariant-loop-low
invariant-loop-low l = record {
  ordered : l.low ≤ l.high;
  within : l.high ≤ length l.wide;
  before : (k : ℕ) → k < l.low → get_or (numbers_of l.wide) k 0 < l.number;
  after : (k : ℕ) → l.high ≤ k → k < length (numbers_of l.wide) → l.number < get_or (numbers_of l.wide) k 0;
}

abbrev pub decreases-loop-low : goal.decreases-loop-low
decreases-loop-low l = l.high - l.low
