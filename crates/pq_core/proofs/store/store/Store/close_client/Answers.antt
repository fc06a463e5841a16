use Rattle.std.proofs.Common.{◌≡◌, ◌≤◌, ◌+◌, ◌-◌, ℕ, refl, sym, arith}
use Rattle.pq_core.proofs.Making.{goes_by, all_same, all_closed}
use Rattle.pq_core.specs.Told.{told_puts}
use Rattle.pq_core.proofs.StoreClosing.{some_opened, close_moved, close_none}
use Rattle.pq_core.proofs.Queued.{queue_closed, queue_same, no_longer}
use Rattle.pq_core.proofs.Changing.{none_taken}
use Rattle.pq_core.proofs.store.store.Store.close_client.Goals as goal

less_one : (n : ℕ) → 1 ≤ n → n - 1 + 1 ≡ n
less_one n h = omega arith

pub overflow_sub-self : goal.overflow_sub-self
overflow_sub-self g c =
    let w = c.self.invariant.ledger in
    some_opened g.R.Key.Ord.cmp (g.R.Rules.machine c.self.inside.memos.rules) g.M.Stamp.point told_puts _ w.0 c.number-seat.result c.in-Some._account w.1 (sym c.in-Some.ensures.value)

pub invariant_of-self : goal.invariant_of-self
invariant_of-self g c =
    let w = c.self.invariant in
    let here = sym c.in-Some.ensures.value in
    let some = some_opened g.R.Key.Ord.cmp (g.R.Rules.machine c.self.inside.memos.rules) g.M.Stamp.point told_puts _ w.ledger.0 c.number-seat.result c.in-Some._account w.ledger.1 here in
    let moved = close_moved g.R.Key.Ord.cmp (g.R.Rules.machine c.self.inside.memos.rules) g.M.Stamp.point told_puts _ _ c.number-seat.result c.in-Some._account
    w.ledger.0 here c.take.ensures.found
    (record { inputs = refl; clients = refl; runs = refl; started = refl }) (less_one c.self.inside.opened some)
    w.ledger.1 in
    let fewer = no_longer c.number-seat.result _ _ c.drop_client.ensures in
    let room = w.room in
    record {
      stamped = c.self.invariant.stamped;
      kept = w.kept;
      accounts_above = c.take.ensures.above c.self.inside.clients w.accounts_above;
      runs_above = w.runs_above;
      queue = queue_closed _ _ _ _ c.number-seat.result c.take.ensures.found c.drop_client.ensures w.queue;
      room = omega arith;
      runs = w.runs;
      ledger = (moved.0, moved.2);
    }

pub returns-in-Some-clause-moved : goal.returns-in-Some-clause-moved
returns-in-Some-clause-moved g c =
    let here = sym c.in-Some.ensures.value in
    let w = c.self.invariant in
    let some = some_opened g.R.Key.Ord.cmp (g.R.Rules.machine c.self.inside.memos.rules) g.M.Stamp.point told_puts _ w.ledger.0 c.number-seat.result c.in-Some._account w.ledger.1 here in
    rw (← c.self.view_is)
    (rw (← c.number-seat.ensures)
    (goes_by g.R.Key.Ord.cmp (g.R.Rules.machine c.self.inside.memos.rules) g.M.Stamp.point _ _ _ (all_closed _ _ c.number-seat.result c.take.ensures.found)
    (λ l s. close_moved g.R.Key.Ord.cmp (g.R.Rules.machine c.self.inside.memos.rules) g.M.Stamp.point told_puts _ _ c.number-seat.result c.in-Some._account
    l here c.take.ensures.found
    (record { inputs = refl; clients = refl; runs = refl; started = refl }) (less_one c.self.inside.opened some)
    s)))

pub invariant_of-self-in-None : goal.invariant_of-self-in-None
invariant_of-self-in-None g c =
    let w = c.self.invariant in
    let moved = close_none g.R.Key.Ord.cmp (g.R.Rules.machine c.self.inside.memos.rules) g.M.Stamp.point told_puts _ _ c.number-seat.result w.ledger.0
    (sym c.in-None.ensures.value) c.take.ensures.found
    (record { inputs = refl; clients = refl; runs = refl; started = refl }) refl w.ledger.1 in
    record {
      stamped = c.self.invariant.stamped;
      kept = w.kept;
      accounts_above = c.take.ensures.above c.self.inside.clients w.accounts_above;
      runs_above = w.runs_above;
      queue = queue_same _ _ _ (none_taken c.self.inside.accounts c.take.new.self c.number-seat.result (sym c.in-None.ensures.value) c.take.ensures.found c.take.ensures.above c.take.ensures.room).found w.queue;
      room = w.room;
      runs = w.runs;
      ledger = (moved.0, moved.2);
    }

pub returns-in-None-clause-moved : goal.returns-in-None-clause-moved
returns-in-None-clause-moved g c =
    rw (← c.self.view_is)
    (rw (← c.number-seat.ensures)
    (goes_by g.R.Key.Ord.cmp (g.R.Rules.machine c.self.inside.memos.rules) g.M.Stamp.point _ _ _ (all_same _ _ (none_taken c.self.inside.accounts c.take.new.self c.number-seat.result (sym c.in-None.ensures.value) c.take.ensures.found c.take.ensures.above c.take.ensures.room).found)
    (λ l s. close_none g.R.Key.Ord.cmp (g.R.Rules.machine c.self.inside.memos.rules) g.M.Stamp.point told_puts _ _ c.number-seat.result l
    (sym c.in-None.ensures.value) c.take.ensures.found
    (record { inputs = refl; clients = refl; runs = refl; started = refl }) refl s)))

pub returns-in-Some-clause-counted : goal.returns-in-Some-clause-counted
returns-in-Some-clause-counted g c =
    rw (← c.self.view_is) (λ log x. x)

pub returns-in-None-clause-counted : goal.returns-in-None-clause-counted
returns-in-None-clause-counted g c =
    rw (← c.self.view_is) (λ log x. x)
