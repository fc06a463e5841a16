use Rattle.std.proofs.Common.{sym, ◌∙◌, ap}
use Rattle.pq_core.proofs.StoreAccepting.{false_true}
use Rattle.pq_core.proofs.StoreRunning.{none_of, run_demands}
use Rattle.pq_core.specs.Stores.{held}
use Rattle.pq_core.specs.Told.{told_puts}
use Rattle.pq_core.specs.aux.Inside.{store_of}
use Rattle.pq_core.specs.aux.Runs.{out_at}
use Rattle.pq_core.proofs.store.store.Store.state_of.Goals as goal

pub returns-then-is_overtaken-clause-at : goal.returns-then-is_overtaken-clause-at
returns-then-is_overtaken-clause-at g c =
    let here = sym (rw c.number.ensures at (c.in-Some.ensures {u = tt})) in
    let late = rw c.now.ensures.now at (c.is_overtaken.ensures.0 c.if-is_overtaken.true) in
    rw (← c.self.view_is) (c.in-Some.kept.now, here, late)

pub answer-requires-clause-demand : goal.answer-requires-clause-demand
answer-requires-clause-demand g c =
    let here = sym (rw c.number.ensures at (c.in-Some.ensures {u = tt})) in
    run_demands g.R.Key.Ord.cmp (g.R.Rules.machine c.self.inside.memos.rules) g.M.Stamp.point told_puts (held (store_of c.self.inside)) c.self.invariant.ledger.0 c.args.run c.in-Some.kept.now c.self.invariant.ledger.1 here

pub returns-in-None-2-clause-at : goal.returns-in-None-2-clause-at
returns-in-None-2-clause-at g c =
    let here = sym (rw c.number.ensures at (c.in-Some.ensures {u = tt})) in
    let stale = rw c.in-None-2.is at (c.in_ok-answer-in-Some.ensures {u = tt}).stale in
    rw (← c.self.view_is) (
      c.in-Some.kept.now,
      record {
        current = record { here = here; early = λ o. false_true (sym c.if-is_overtaken.false ∙ c.is_overtaken.ensures.1 (rw c.now.ensures.now o)) };
        idle = none_of (out_at c.in-Some.kept.now.top) (λ e. false_true (sym c.if-is_out.false ∙ c.is_out.ensures.1 e));
        stale = stale;
      },
      ap (λ (m : g.row.M.Denot). g.M.Stamp.point m) (c.in_ok-stamp-in-Some.ensures {u = tt}).again ∙ c.self.invariant.stamped,
    )
