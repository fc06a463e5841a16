use Rattle.std.proofs.Common.{[], ◌≡◌, ◌≢◌, ◌∙◌, ◌++◌, ap, refl, sym, subst, length, drop, take, List, ℕ, Some, None, arith, IsTrue}
use Rattle.pq_claims.specs.aux.Table.{HeldView, IsSetAt, Blocks, holder_in, held_at}
use Rattle.pq_claims.proofs.Answering.{waits_kept, waiting_kept, waited_ring, apart_from, waits_set, other_run}
use Rattle.pq_claims.proofs.claiming.wait_for.Goals as goal

pub leads_to-requires-clause-holds : goal.leads_to-requires-clause-holds
leads_to-requires-clause-holds g c = (c.args.holder.place, c.args.key.now, (c.requires.kept.1.placed c.args.key.now c.args.holder c.requires.holds).0)

pub returns-then-leads_to-clause-kept : goal.returns-then-leads_to-clause-kept
returns-then-leads_to-clause-kept g c = λ n kept.
    waits_kept g.R.Key.Ord.cmp g.met.R.Key.Ord.total (g.met.R.Rules.lawful c.args.rules.now []).exact n c.args.holders.now.entries c.args.runs.now.entries c.set_wait.new.runs.entries c.args.run
    c.set_wait.ensures.set kept

pub returns-then-leads_to-clause-waited : goal.returns-then-leads_to-clause-waited
returns-then-leads_to-clause-waited g c =
    let w = waited_ring g.R.Key.Ord.cmp g.met.R.Key.Ord.total (g.met.R.Rules.lawful c.args.rules.now []).exact c.args.holders.now.entries c.args.runs.now.entries c.set_wait.new.runs.entries
    c.args.run c.args.key.now c.args.holder c.in_ok-ring.ring.items c.from_least.result.items (c.in_ok-ring.ensures {u = tt}).round (c.in_ok-ring.ensures {u = tt}).differ
    (c.in_ok-ring.ensures {u = tt}).last c.from_least.ensures in
    (w.0, w.1, w.2, c.set_wait.ensures.set)

pub returns-clause-kept : goal.returns-clause-kept
returns-clause-kept g c = λ n kept.
    waiting_kept g.R.Key.Ord.cmp g.met.R.Key.Ord.total (g.met.R.Rules.lawful c.args.rules.now []).exact n c.args.holders.now.entries c.args.runs.now.entries c.set_wait-2.new.runs.entries c.args.run
    c.args.key.now c.in_ok-copy.copy c.args.holder (c.in_ok-copy.ensures {u = tt}).copy c.requires.holds
    (λ ss w. apart_from c.leads_to.result c.if-leads_to.false (c.leads_to.ensures.apart ss w)) c.set_wait-2.ensures.set kept

pub returns-clause-waited : goal.returns-clause-waited
returns-clause-waited g c = (
  c.new.ensures,
  subst (λ (q : ℕ). q ≢ c.args.run) (sym c.new.ensures)
      (other_run (Blocks (λ k. holder_in g.R.Key.Ord.cmp c.args.holders.now.entries k) (λ r. held_at c.args.runs.now.entries r)) c.args.holder.run c.args.run
      (λ ss w. apart_from c.leads_to.result c.if-leads_to.false (c.leads_to.ensures.apart ss w))),
  waits_set c.args.runs.now.entries c.set_wait-2.new.runs.entries c.args.run c.args.key.now c.in_ok-copy.copy c.args.holder.claim (c.in_ok-copy.ensures {u = tt}).copy c.set_wait-2.ensures.set,
)
