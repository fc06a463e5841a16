use Rattle.std.proofs.Common.{◌<◌, ◌≡◌, length, ℕ, get_or, false}
use Rattle.std.specs.Ordering.{is_gt}
use Rattle.pq_memo.specs.declared.stepping.frame.Frame.{Frame}
use Rattle.pq_memo.proofs.demand.demand.least_place.Given as goal

abbrev pub invariant-loop-i : goal.invariant-loop-i
invariant-loop-i g l = record {
  within : l.least < length l.frames;
  low : (j : ℕ) (d : Frame g.row.R-Key.Denot g.row.R-Part.Denot) → j < l.i
      → is_gt (g.R.Key.Ord.cmp (get_or l.frames l.least d).key (get_or l.frames j d).key) ≡ false;
}
