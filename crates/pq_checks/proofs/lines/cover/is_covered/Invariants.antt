use Rattle.std.proofs.Common.{◌≡◌, ◌-◌, ◌<◌, ◌≤◌, true, false, length, get_or}
use Rattle.pq_checks.specs.aux.Cover.{is_at_most}
use Rattle.pq_checks.proofs.lines.cover.is_covered.Given as goal

abbrev pub invariant-halves : goal.invariant-halves
invariant-halves g l = record {
  in_order : l.low ≤ l.high;
  in_range : l.high ≤ length l.stairs;
  below : (d : g.row.T.Denot × g.row.T.Denot) → 0 < l.low → is_at_most g.T.Ord.cmp (get_or l.stairs (l.low - 1) d).0 l.value ≡ true;
  above : (d : g.row.T.Denot × g.row.T.Denot) → l.high < length l.stairs → is_at_most g.T.Ord.cmp (get_or l.stairs l.high d).0 l.value ≡ false;
}

abbrev pub decreases-halves : goal.decreases-halves
decreases-halves g l = l.high - l.low
