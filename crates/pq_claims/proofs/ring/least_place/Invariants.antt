use Rattle.std.proofs.Common.{◌<◌, ◌≡◌, length, ℕ, get_or, false}
use Rattle.std.specs.Ordering.{is_gt}
use Rattle.pq_claims.proofs.ring.least_place.Given as goal

abbrev pub invariant-loop-i : goal.invariant-loop-i
invariant-loop-i g l = record {
  within : l.least < length l.keys;
  low : (j : ℕ) (d : g.row.R-Key.Denot) → j < l.i → is_gt (g.R.Key.Ord.cmp (get_or l.keys l.least d) (get_or l.keys j d)) ≡ false;
}
