use Rattle.std.proofs.Common.{refl}
use Rattle.pq_core.proofs.StoreCollecting.{collect_moved, collect_queue, collect_said, still_above}
use Rattle.pq_core.proofs.MadeCounts.{made_fewer}
use Rattle.pq_core.proofs.store.store.Store.take_made.Goals as goal

pub invariant_of-self : goal.invariant_of-self
invariant_of-self g c =
    let w = c.self.invariant in
    record {
      stamped = w.stamped;
      kept = w.kept;
      accounts_above = still_above c.self.inside.accounts c.collect_in.new.accounts c.number-seat.result c.self.inside.clients
          (λ account h. let x = c.collect_in.ensures.«open» account h in (x.0, x.2)) (λ h. (c.collect_in.ensures.closed h).1) w.accounts_above;
      runs_above = w.runs_above;
      queue = collect_queue g.R.Key.Ord.cmp (g.R.Rules.machine c.self.inside.memos.rules) g.M.Stamp.point _ _ _ c.number-seat.result c.collect_in.result
          (λ account h. let x = c.collect_in.ensures.«open» account h in (x.0, x.1, x.2.found)) (λ h. (c.collect_in.ensures.closed h).1.found) w.queue;
      room = w.room;
      runs = w.runs;
      ledger = (
        w.ledger.0,
        collect_moved g.R.Key.Ord.cmp (g.R.Rules.machine c.self.inside.memos.rules) g.M.Stamp.point _ _ w.ledger.0 c.number-seat.result c.collect_in.result
            (λ account h. let x = c.collect_in.ensures.«open» account h in (x.0, x.1, x.2.found)) (λ h. (c.collect_in.ensures.closed h).1.found) (record { inputs = refl; clients = refl; runs = refl; started = refl }) refl w.ledger.1,
      );
    }

pub returns-clause-stands : goal.returns-clause-stands
returns-clause-stands g c =
    rw (← c.self.view_is)
    (λ l s. collect_moved g.R.Key.Ord.cmp (g.R.Rules.machine c.self.inside.memos.rules) g.M.Stamp.point _ _ l c.number-seat.result c.collect_in.result
    (λ account h. let x = c.collect_in.ensures.«open» account h in (x.0, x.1, x.2.found)) (λ h. (c.collect_in.ensures.closed h).1.found) (record { inputs = refl; clients = refl; runs = refl; started = refl }) refl s)

pub returns-clause-collects : goal.returns-clause-collects
returns-clause-collects g c =
    rw (← c.self.view_is)
    (rw (← c.number-seat.ensures)
    (collect_said g.R.Key.Ord.cmp (g.R.Rules.machine c.self.inside.memos.rules) g.M.Stamp.point _ _ c.number-seat.result c.collect_in.result c.self.invariant.ledger.0
    (λ account h. let x = c.collect_in.ensures.«open» account h in (x.0, x.1, x.2.found)) (λ h. let x = c.collect_in.ensures.closed h in (x.0, x.1.found)) c.self.invariant.ledger.1))

pub returns-clause-fewer : goal.returns-clause-fewer
returns-clause-fewer g c =
    rw (← c.self.view_is)
    (made_fewer c.self.inside.accounts.items c.collect_in.new.accounts.items c.self.inside.clients c.number-seat.result c.collect_in.result
    (λ account h. let x = c.collect_in.ensures.«open» account h in (x.0, x.1, x.2.found)) (λ h. (c.collect_in.ensures.closed h).0) c.self.invariant.accounts_above)
