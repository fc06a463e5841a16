use Rattle.std.proofs.Common.{refl}
use Rattle.pq_core.proofs.StoreCollecting.{see_moved, see_queue, seen_made, still_above}
use Rattle.pq_core.specs.Stores.{held}
use Rattle.pq_core.specs.aux.Inside.{store_of}
use Rattle.pq_core.proofs.store.store.Store.put_seen.Goals as goal

pub invariant_of-self : goal.invariant_of-self
invariant_of-self g c =
    let w = c.self.invariant in
    let moved = see_moved g.R.Key.Ord.cmp (g.R.Rules.machine c.self.inside.memos.rules) g.M.Stamp.point (store_of c.self.inside) (record (held (store_of c.self.inside)) { accounts = c.see_in.new.accounts.items }) w.ledger.0 c.number-seat.result c.args.number
    (λ account h. let x = c.see_in.ensures.«open» account h in (x.0, x.1, x.2.found)) (λ h. (c.see_in.ensures.closed h).found) (record { inputs = refl; clients = refl; runs = refl; started = refl }) refl w.ledger.1 in
    record {
      stamped = w.stamped;
      kept = w.kept;
      accounts_above = still_above c.self.inside.accounts c.see_in.new.accounts c.number-seat.result c.self.inside.clients
          (λ account h. let x = c.see_in.ensures.«open» account h in (x.0, x.2)) (λ h. c.see_in.ensures.closed h) w.accounts_above;
      runs_above = w.runs_above;
      queue = see_queue _ _ _ c.number-seat.result c.args.number
          (λ account h. let x = c.see_in.ensures.«open» account h in (x.0, x.1, x.2.found)) (λ h. (c.see_in.ensures.closed h).found) w.queue;
      room = w.room;
      runs = w.runs;
      ledger = (moved.0, moved.2);
    }

pub returns-clause-moved : goal.returns-clause-moved
returns-clause-moved g c =
    rw (← c.self.view_is)
    (rw (← c.number-seat.ensures)
    (λ l s. see_moved g.R.Key.Ord.cmp (g.R.Rules.machine c.self.inside.memos.rules) g.M.Stamp.point (store_of c.self.inside) (record (held (store_of c.self.inside)) { accounts = c.see_in.new.accounts.items }) l c.number-seat.result c.args.number
    (λ account h. let x = c.see_in.ensures.«open» account h in (x.0, x.1, x.2.found)) (λ h. (c.see_in.ensures.closed h).found) (record { inputs = refl; clients = refl; runs = refl; started = refl }) refl s))

pub returns-clause-made : goal.returns-clause-made
returns-clause-made g c =
    rw (← c.self.view_is)
    (seen_made _ _ c.number-seat.result c.args.number
    (λ account h. let x = c.see_in.ensures.«open» account h in (x.0, x.1, x.2.found)) (λ h. (c.see_in.ensures.closed h).found))
