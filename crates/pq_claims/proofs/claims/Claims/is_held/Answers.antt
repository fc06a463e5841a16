use Rattle.pq_claims.specs.aux.Table.{holder_in}
use Rattle.pq_claims.proofs.Answering.{held_or_not}
use Rattle.pq_claims.proofs.claims.Claims.is_held.Goals as goal

pub returns : goal.returns
returns g c = record {
  held = held_or_not c.self.inside.next (λ k. holder_in g.R.Key.Ord.cmp c.self.inside.holders.entries k) c.self.inside.runs.entries c.args.self.now c.args.key.now c.holder_of.result c.is_some.result
      c.self.invariant c.self.view_is c.holder_of.ensures c.is_some.ensures;
}
