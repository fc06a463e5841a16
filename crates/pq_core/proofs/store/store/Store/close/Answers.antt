use Rattle.std.proofs.Common.{refl, []}
use Rattle.pq_rules.proofs.Weight.{Exact}
use Rattle.pq_memo.specs.Table.{memo_at}
use Rattle.pq_core.proofs.StoreCounting.{ring_on}
use Rattle.pq_core.proofs.StoreAccepting.{run_past}
use Rattle.pq_core.proofs.StoreRunning.{seen_moved}
use Rattle.pq_core.proofs.StoreStepping.{step_whole}
use Rattle.pq_core.specs.Stores.{held}
use Rattle.pq_core.specs.Told.{told_puts}
use Rattle.pq_core.specs.aux.Inside.{store_of}
use Rattle.pq_core.proofs.store.store.Store.close.Goals as goal

pub close_ring-requires-clause-within : goal.close_ring-requires-clause-within
close_ring-requires-clause-within g c =
    λ r run h. run_past g.R.Key.Ord.cmp (g.R.Rules.machine c.self.inside.memos.rules) g.M.Stamp.point told_puts (held (store_of c.self.inside)) c.self.invariant.ledger.0 r run c.self.invariant.ledger.1 h

pub close_ring-requires-clause-closes : goal.close_ring-requires-clause-closes
close_ring-requires-clause-closes g c =
    (rw (← c.self.view_is) at c.requires).closes

pub invariant_of-self : goal.invariant_of-self
invariant_of-self g c =
    let w = c.self.invariant in
    rw c.close_ring.ensures.rules
    (step_whole _ _ _ _ _ _ _ _ w c.close_ring.ensures.kept (c.close_ring.ensures.above c.self.inside.started) c.close_ring.ensures.room
    c.close_ring.ensures.runs_kept (
      w.ledger.0,
      seen_moved g.R.Key.Ord.cmp (g.R.Rules.machine c.self.inside.memos.rules) g.M.Stamp.point told_puts (held (store_of c.self.inside)) (record (held (store_of c.self.inside)) { runs = c.close_ring.new.runs.items }) w.ledger.0 c.close_ring.ensures.seen (λ k. refl)
          (record { inputs = refl; opened = refl; clients = refl; started = refl }) w.ledger.1,
    ))

pub returns-clause-clients : goal.returns-clause-clients
returns-clause-clients g c =
    rw (← c.self.view_is) (record { rules = c.close_ring.ensures.rules; inputs = refl; accounts = refl; opened = refl; clients = refl; started = refl })

pub returns-clause-renewed : goal.returns-clause-renewed
returns-clause-renewed g c =
    rw (← c.self.view_is) c.close_ring.ensures.renewed

pub returns-clause-seen : goal.returns-clause-seen
returns-clause-seen g c =
    rw (← c.self.view_is) c.close_ring.ensures.seen

pub returns-clause-counted : goal.returns-clause-counted
returns-clause-counted g c =
    let exact : Exact g.R.Key.Ord.cmp = record { total = g.met.R.Key.Ord.total; exact = (g.met.R.Rules.lawful c.self.inside.memos.rules []).exact } in
    rw (← c.self.view_is) (λ log x. ring_on g.R.Key.Ord.cmp exact (g.R.Rules.machine c.self.inside.memos.rules) c.self.inside.inputs log (memo_at g.R.Key.Ord.cmp c.self.inside.memos.places) (memo_at g.R.Key.Ord.cmp c.close_ring.new.memos.places) c.self.inside.runs.items c.close_ring.new.runs.items
    c.close_ring.ensures.renewed c.close_ring.ensures.begun x)
