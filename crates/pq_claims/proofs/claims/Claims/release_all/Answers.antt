use Rattle.std.proofs.Common.{length, refl}
use Rattle.pq_claims.specs.aux.Table.{holder_in}
use Rattle.pq_claims.proofs.Answering.{counted_keys, releasing_none, releasing_next, no_keys, closed_kept, closed_all}
use Rattle.pq_claims.proofs.claims.Claims.release_all.Goals as goal

pub keys-preserved : goal.keys-preserved
keys-preserved g c =
    releasing_next c.args.run c.args.self.now c.keys.self c.release.new.self (length c.keys_in-count.result.now) c.keys._step c.release.result
    (counted_keys (λ k. holder_in g.R.Key.Ord.cmp c.self.inside.holders.entries k) c.self.inside.runs.entries c.args.self.now c.number.result c.args.run c.keys_in-count.result.now c.self.view_is
    c.number.ensures c.keys_in-count.ensures) c.keys-test.true c.release.ensures.released c.keys.invariant

pub invariant_of-self : goal.invariant_of-self
invariant_of-self g c =
    closed_kept g.R.Key.Ord.cmp c.self-2.inside.next c.self-2.inside.holders.entries c.self-2.inside.runs.entries c.close_run.new.runs.entries c.keys.self c.args.run c.number-2.result
    c.number-2.ensures c.self-2.view_is
    (no_keys c.args.run c.args.self.now c.keys.self (length c.keys_in-count.result.now) c.keys._step
    (counted_keys (λ k. holder_in g.R.Key.Ord.cmp c.self.inside.holders.entries k) c.self.inside.runs.entries c.args.self.now c.number.result c.args.run c.keys_in-count.result.now c.self.view_is
    c.number.ensures c.keys_in-count.ensures) c.keys-test.false c.keys.invariant)
    c.close_run.ensures.set c.self-2.invariant

pub returns : goal.returns
returns g c = record {
  released = closed_all (λ k. holder_in g.R.Key.Ord.cmp c.self-2.inside.holders.entries k) c.self-2.inside.runs.entries c.close_run.new.runs.entries c.args.self.now c.keys.self c.args.run c.number-2.result
      (length c.keys_in-count.result.now) c.keys._step c.number-2.ensures
      (counted_keys (λ k. holder_in g.R.Key.Ord.cmp c.self.inside.holders.entries k) c.self.inside.runs.entries c.args.self.now c.number.result c.args.run c.keys_in-count.result.now c.self.view_is
      c.number.ensures c.keys_in-count.ensures) c.keys-test.false c.self-2.view_is c.keys.invariant c.close_run.ensures.set;
}
