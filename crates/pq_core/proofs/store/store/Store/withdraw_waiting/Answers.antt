use Rattle.std.proofs.Common.{◌≤◌, length, refl, arith}
use Rattle.pq_core.specs.Told.{told_puts}
use Rattle.pq_core.specs.Stores.{held}
use Rattle.pq_core.specs.aux.Inside.{store_of}
use Rattle.pq_core.specs.aux.Queue.{is_other_seat}
use Rattle.pq_core.proofs.Making.{go_on_set}
use Rattle.pq_core.proofs.Queued.{few_filter}
use Rattle.pq_core.proofs.WithdrawOne.{waiting_withdrawn, withdrawn_advances, withdrawn_queue}
use Rattle.pq_core.proofs.store.store.Store.withdraw_waiting.Goals as goal

pub invariant_of-self : goal.invariant_of-self
invariant_of-self g c =
    let w = c.self.invariant in
    let y = c.withdraw_in.ensures in
    let gone = rw c.now-now.ensures.now at y.3 in
    let left = rw c.number.ensures at c.drop_one.ensures in
    let moved = waiting_withdrawn g.R.Key.Ord.cmp (g.R.Rules.machine c.self.inside.memos.rules) g.M.Stamp.point told_puts (held (store_of c.self.inside))
    (record (held (store_of c.self.inside)) { accounts = c.withdraw_in.new.accounts.items }) c.args.client c.args.number y.0 y.1 w.ledger.0 w.ledger.1 y.2 gone y.4.found
    (record { inputs = refl; clients = refl; runs = refl; started = refl }) refl in
    record {
      stamped = w.stamped;
      kept = w.kept;
      accounts_above = y.4.above c.self.inside.clients w.accounts_above;
      runs_above = w.runs_above;
      queue = withdrawn_queue _ _ _ _ c.args.client c.args.number _ y.0 y.1 y.2 gone y.4.found left w.queue;
      room =
          let a : length c.self.inside.waiting.seats ≤ c.self.inside.runs.room = w.room in
          let b : length c.drop_one.new.self.seats ≤ length c.self.inside.waiting.seats = rw left (few_filter (λ seat. is_other_seat c.args.client c.args.number seat) c.self.inside.waiting.seats) in
          omega arith;
      runs = w.runs;
      ledger = (moved.0, moved.2);
    }

pub returns-clause-goes_on : goal.returns-clause-goes_on
returns-clause-goes_on g c =
    let y = c.withdraw_in.ensures in
    rw (← c.self.view_is)
    (go_on_set _ _ c.args.client y.0 y.1 y.2 y.4.found (withdrawn_advances c.args.client c.args.number _ y.0 y.1 y.3))

pub returns-clause-one : goal.returns-clause-one
returns-clause-one g c =
    let y = c.withdraw_in.ensures in
    let gone = rw c.now-now.ensures.now at y.3 in
    rw (← c.self.view_is)
    (λ l s. waiting_withdrawn g.R.Key.Ord.cmp (g.R.Rules.machine c.self.inside.memos.rules) g.M.Stamp.point told_puts (held (store_of c.self.inside))
    (record (held (store_of c.self.inside)) { accounts = c.withdraw_in.new.accounts.items }) c.args.client c.args.number y.0 y.1 l s y.2 gone y.4.found
    (record { inputs = refl; clients = refl; runs = refl; started = refl }) refl)
