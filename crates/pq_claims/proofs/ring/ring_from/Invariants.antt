use Rattle.pq_claims.specs.aux.Table.{held_at, holder_in}
use Rattle.pq_claims.specs.aux.Walks.{IsTraced}
use Rattle.pq_claims.proofs.ring.ring_from.Given as goal

abbrev pub invariant-walk : goal.invariant-walk
invariant-walk g l = IsTraced (λ k. holder_in g.R.Key.Ord.cmp l.holders.entries k) (λ r. held_at l.runs.entries r) l.fn.first.run l.run l._key l._step l.at l.ring.items
