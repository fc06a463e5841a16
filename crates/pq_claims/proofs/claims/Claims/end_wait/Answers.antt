use Rattle.std.proofs.Common.{[]}
use Rattle.pq_claims.specs.aux.Table.{holder_in}
use Rattle.pq_claims.proofs.Answering.{waits_kept, ended_shown}
use Rattle.pq_claims.proofs.claims.Claims.end_wait.Goals as goal

pub invariant_of-self : goal.invariant_of-self
invariant_of-self g c =
    waits_kept g.R.Key.Ord.cmp g.met.R.Key.Ord.total (g.met.R.Rules.lawful c.self.inside.rules []).exact c.self.inside.next c.self.inside.holders.entries c.self.inside.runs.entries
    c.drop_wait.new.runs.entries c.number.result c.drop_wait.ensures.set c.self.invariant

pub returns : goal.returns
returns g c = record {
  ended = ended_shown (λ k. holder_in g.R.Key.Ord.cmp c.self.inside.holders.entries k) c.self.inside.runs.entries c.drop_wait.new.runs.entries c.args.self.now c.args.run c.number.result c.number.ensures
      c.self.view_is c.drop_wait.ensures.set;
}
