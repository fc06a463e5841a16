use Rattle.std.proofs.Common.{◌+◌, ◌<◌, ◌≤◌, ◌^◌, refl, arith, inl, inr}
use Rattle.pq_core.proofs.Making.{goes_by, all_same, all_opened}
use Rattle.pq_core.proofs.Changing.{pushed_at, room_made, above_next}
use Rattle.pq_core.proofs.StoreOpening.{open_moved, open_refused, open_many, unmoved}
use Rattle.pq_core.proofs.Queued.{queue_same, queue_opened}
use Rattle.pq_core.proofs.Slots.{found_above}
use Rattle.pq_core.specs.Told.{told_puts}
use Rattle.pq_core.proofs.store.store.Store.open_client.Goals as goal

pub returns-then-is_err-clause-moved : goal.returns-then-is_err-clause-moved
returns-then-is_err-clause-moved g c =
    let few : c.self.inside.opened < 64 = omega arith in
    rw (← c.self.view_is)
    (goes_by g.R.Key.Ord.cmp (g.R.Rules.machine c.self.inside.memos.rules) g.M.Stamp.point _ _ _ (all_same _ _ (λ k. c.reserve.ensures.same.same k))
    (λ l s. open_refused g.R.Key.Ord.cmp (g.R.Rules.machine c.self.inside.memos.rules) g.M.Stamp.point _ _ l
    (record {
      inputs = refl;
      accounts = λ k. c.reserve.ensures.same.same k;
      opened = refl;
      clients = refl;
      runs = λ k. refl;
      started = refl;
    })
    few s))

pub push_reserved-requires-clause-room : goal.push_reserved-requires-clause-room
push_reserved-requires-clause-room g c = room_made c.reserve.result c.reserve.ensures.room c.if-is_err.false c.is_err.ensures.value

pub invariant_of-self : goal.invariant_of-self
invariant_of-self g c =
    let w = c.self.invariant in
    record {
      stamped = c.self.invariant.stamped;
      kept = w.kept;
      accounts_above = c.reserve.ensures.same.above c.self.inside.clients w.accounts_above;
      runs_above = w.runs_above;
      queue = queue_same _ _ _ (λ k. c.reserve.ensures.same.same k) w.queue;
      room = w.room;
      runs = w.runs;
      ledger = (
        w.ledger.0,
        unmoved g.R.Key.Ord.cmp (g.R.Rules.machine c.self.inside.memos.rules) g.M.Stamp.point told_puts _ _ w.ledger.0
            (record {
              inputs = refl;
              accounts = λ k. c.reserve.ensures.same.same k;
              opened = refl;
              clients = refl;
              runs = λ k. refl;
              started = refl;
            })
            w.ledger.1,
      );
    }

pub invariant_of-self-2 : goal.invariant_of-self-2
invariant_of-self-2 g c =
    let w = c.self.invariant in
    let accounts = rw c.new.ensures at (pushed_at _ _ _ c.self.inside.clients c.new.result c.reserve.ensures.same c.push_reserved.ensures.found) in
    let moved = open_moved g.R.Key.Ord.cmp (g.R.Rules.machine c.self.inside.memos.rules) g.M.Stamp.point _ _ w.ledger.0
    accounts refl refl refl refl refl (omega arith) w.ledger.1 in
    record {
      stamped = c.self.invariant.stamped;
      kept = w.kept;
      accounts_above = c.push_reserved.ensures.above (c.self.inside.clients + 1) (omega arith) (above_next _ _ (c.reserve.ensures.same.above c.self.inside.clients w.accounts_above));
      runs_above = w.runs_above;
      queue = queue_opened _ _ _ c.self.inside.clients (found_above c.self.inside.clients _ w.accounts_above) accounts w.queue;
      room = w.room;
      runs = w.runs;
      ledger = (moved.0, moved.2);
    }

pub returns-clause-moved : goal.returns-clause-moved
returns-clause-moved g c =
    let w = c.self.invariant in
    let few : c.self.inside.opened < 64 = omega arith in
    let accounts = rw c.new.ensures at (pushed_at _ _ _ c.self.inside.clients c.new.result c.reserve.ensures.same c.push_reserved.ensures.found) in
    rw (← c.self.view_is)
    (rw c.new-2.ensures
    (goes_by g.R.Key.Ord.cmp (g.R.Rules.machine c.self.inside.memos.rules) g.M.Stamp.point _ _ _ (all_opened _ _ c.self.inside.clients (found_above c.self.inside.clients _ w.accounts_above) accounts)
    (λ l s. open_moved g.R.Key.Ord.cmp (g.R.Rules.machine c.self.inside.memos.rules) g.M.Stamp.point _ _ l accounts refl refl refl refl refl few s)))

pub returns-then-is_err-clause-counted : goal.returns-then-is_err-clause-counted
returns-then-is_err-clause-counted g c =
    rw (← c.self.view_is) (λ log x. x)

pub returns-clause-counted : goal.returns-clause-counted
returns-clause-counted g c =
    rw (← c.self.view_is) (λ log x. x)

pub returns-then-self-ge-MAX_CLIENTS-clause-moved : goal.returns-then-self-ge-MAX_CLIENTS-clause-moved
returns-then-self-ge-MAX_CLIENTS-clause-moved g c =
    let many : 64 ≤ c.self.inside.opened = omega arith in
    rw (← c.self.view_is)
    (goes_by g.R.Key.Ord.cmp (g.R.Rules.machine c.self.inside.memos.rules) g.M.Stamp.point _ _ _ (all_same _ _ (λ k. refl))
    (λ l s. open_many g.R.Key.Ord.cmp (g.R.Rules.machine c.self.inside.memos.rules) g.M.Stamp.point _ l (inl many) s))

pub returns-then-self-clause-moved : goal.returns-then-self-clause-moved
returns-then-self-clause-moved g c =
    let used : 2 ^ 64 ≤ c.self.inside.clients + 1 = omega arith in
    rw (← c.self.view_is)
    (goes_by g.R.Key.Ord.cmp (g.R.Rules.machine c.self.inside.memos.rules) g.M.Stamp.point _ _ _ (all_same _ _ (λ k. refl))
    (λ l s. open_many g.R.Key.Ord.cmp (g.R.Rules.machine c.self.inside.memos.rules) g.M.Stamp.point _ l (inr used) s))
