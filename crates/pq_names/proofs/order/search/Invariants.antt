use Rattle.std.proofs.Common.{◌-◌, ◌≡◌, ◌<◌, ◌≤◌, ℕ, length}
use Rattle.std.specs.declared.cmp.Ordering.TheVariants.{Less, Greater}
use Rattle.pq_names.specs.aux.Order.{against}
use Rattle.pq_names.proofs.order.search.Given as goal

-- the texts before `low` are less than the text, and those from `high` on greater
abbrev pub invariant-loop-low : goal.invariant-loop-low
invariant-loop-low l = record {
  narrow : l.low ≤ l.high;
  inside : l.high ≤ length l.order;
  before : (k : ℕ) → k < l.low → against l.order l.texts k l.text ≡ Less;
  after : (k : ℕ) → l.high ≤ k → k < length l.order → against l.order l.texts k l.text ≡ Greater;
}

abbrev pub decreases-loop-low : goal.decreases-loop-low
decreases-loop-low l = l.high - l.low
