use Rattle.std.proofs.Common.{◌-◌}
use Rattle.pq_schema.specs.aux.Fronts.{IsMet, IsParted, IsSeen}
use Rattle.pq_schema.proofs.define.index.lower_bound.Given as goal

abbrev pub invariant-halves : goal.invariant-halves
invariant-halves l = IsParted l.index l.name l.low l.high × (IsSeen l.index l.name l.seen × IsMet l.index l.name l.high l.seen)

abbrev pub decreases-halves : goal.decreases-halves
decreases-halves l = l.high - l.low
