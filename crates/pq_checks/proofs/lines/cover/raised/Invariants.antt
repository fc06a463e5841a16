use Rattle.std.proofs.Common.{◌≡◌, ◌++◌, drop}
use Rattle.pq_checks.specs.aux.Cover.{raise}
use Rattle.pq_checks.specs.aux.Cover.{raised as raised_of}
use Rattle.pq_checks.proofs.lines.cover.raised.Given as goal

abbrev pub invariant-others : goal.invariant-others
invariant-others g l = l.stairs.items ++ raise g.T.Ord.cmp l.top (drop l.range-index l.others) ≡ raised_of g.T.Ord.cmp l.ranges
