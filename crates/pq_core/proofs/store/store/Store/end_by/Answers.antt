use Rattle.std.proofs.Common.{◌≤◌, length, refl, sym, arith, []}
use Rattle.pq_rules.proofs.Weight.{Exact}
use Rattle.pq_core.proofs.Making.{goes_by, go_on_all}
use Rattle.pq_core.specs.Told.{told_puts}
use Rattle.pq_core.specs.Stores.{held}
use Rattle.pq_core.specs.aux.Inside.{store_of}
use Rattle.pq_core.proofs.RunsKept.{stopped_runs}
use Rattle.pq_core.proofs.EndOfRun.{ends_counted, ends_moved, may_fits, reply_due}
use Rattle.pq_core.proofs.StoreRunning.{current, end_advances, end_queue, ends_of, run_here, run_running}
use Rattle.pq_core.proofs.store.store.Store.end_by.Goals as goal

pub make_reply-requires-clause-due : goal.make_reply-requires-clause-due
make_reply-requires-clause-due g c =
    let here = sym (rw c.number.ensures at (c.in-Some.ensures {u = tt}).value) in
    reply_due g.R.Key.Ord.cmp g.M.Stamp.point g.R.Rules.machine c.self.inside.memos.rules c.self.inside.inputs c.self.inside.accounts.items c.in-Some.taken c.args.ending c.now-now.result c.now-now.ensures.now
    (may_fits g.R.Key.Ord.cmp g.M.Stamp.point (g.R.Rules.machine c.self.inside.memos.rules) (store_of c.self.inside) c.args.run c.args.ending c.in-Some.taken (rw (← c.self.view_is) at c.requires.may) here)

pub make_reply-requires-clause-running : goal.make_reply-requires-clause-running
make_reply-requires-clause-running g c =
    let here = sym (rw c.number.ensures at (c.in-Some.ensures {u = tt}).value) in
    λ account h. run_running g.R.Key.Ord.cmp (g.R.Rules.machine c.self.inside.memos.rules) g.M.Stamp.point told_puts (held (store_of c.self.inside)) c.self.invariant.ledger.0 c.args.run c.in-Some.taken account c.self.invariant.ledger.1 here h

pub invariant_of-self : goal.invariant_of-self
invariant_of-self g c =
    let w = c.self.invariant in
    let here = sym (rw c.number.ensures at (c.in-Some.ensures {u = tt}).value) in
    let runs = rw c.number.ensures at c.take.ensures.found in
    let moved = ends_moved g.R.Key.Ord.cmp (g.R.Rules.machine c.self.inside.memos.rules) g.M.Stamp.point told_puts c.self.inside.memos.rules (held (store_of c.self.inside))
    (record (held (store_of c.self.inside)) { accounts = c.make_reply.new.accounts.items; runs = c.take.new.self.items }) w.ledger.0 c.args.run c.in-Some.taken c.args.ending w.ledger.1 here
    (may_fits g.R.Key.Ord.cmp g.M.Stamp.point (g.R.Rules.machine c.self.inside.memos.rules) (store_of c.self.inside) c.args.run c.args.ending c.in-Some.taken (rw (← c.self.view_is) at c.requires.may) here)
    runs (λ account h. ends_of (rw c.now-now.ensures.now at (c.make_reply.ensures.«open» account h))) (λ h k. (c.make_reply.ensures.closed h).found k) (record { inputs = refl; opened = refl; clients = refl; started = refl }) in
    record {
      stamped = w.stamped;
      kept = w.kept;
      accounts_above = c.make_reply.ensures.above c.self.inside.clients w.accounts_above;
      runs_above = c.take.ensures.above c.self.inside.started w.runs_above;
      queue = end_queue _ _ _ c.in-Some.taken.client c.in-Some.taken.number _
          (λ account h. ends_of (c.make_reply.ensures.«open» account h)) (λ h k. (c.make_reply.ensures.closed h).found k) w.queue;
      room =
          let a : length c.self.inside.waiting.seats ≤ c.self.inside.runs.room = w.room in
          let b : c.self.inside.runs.room ≤ c.take.new.self.room = c.take.ensures.room in
          omega arith;
      runs = stopped_runs _ _ _ _ _ _ _ c.args.run c.release_all.new.self runs c.release_all.ensures.released w.runs;
      ledger = (moved.0, moved.2);
    }

pub returns-in-Some-clause-moved : goal.returns-in-Some-clause-moved
returns-in-Some-clause-moved g c =
    let here = sym (rw c.number.ensures at (c.in-Some.ensures {u = tt}).value) in
    let runs = rw c.number.ensures at c.take.ensures.found in
    let may = rw (← c.self.view_is) at c.requires.may in
    rw (← c.self.view_is)
    (goes_by g.R.Key.Ord.cmp (g.R.Rules.machine c.self.inside.memos.rules) g.M.Stamp.point _ _ _
    (go_on_all _ _ (end_advances _ _ c.in-Some.taken.client c.in-Some.taken.number _ (λ account h. ends_of (c.make_reply.ensures.«open» account h)) (λ h k. (c.make_reply.ensures.closed h).found k)))
    (λ l s. ends_moved g.R.Key.Ord.cmp (g.R.Rules.machine c.self.inside.memos.rules) g.M.Stamp.point told_puts c.self.inside.memos.rules (held (store_of c.self.inside))
    (record (held (store_of c.self.inside)) { accounts = c.make_reply.new.accounts.items; runs = c.take.new.self.items }) l c.args.run c.in-Some.taken c.args.ending s here
    (may_fits g.R.Key.Ord.cmp g.M.Stamp.point (g.R.Rules.machine c.self.inside.memos.rules) (store_of c.self.inside) c.args.run c.args.ending c.in-Some.taken may here)
    runs (λ account h. ends_of (rw c.now-now.ensures.now at (c.make_reply.ensures.«open» account h))) (λ h k. (c.make_reply.ensures.closed h).found k) (record { inputs = refl; opened = refl; clients = refl; started = refl })))

pub returns-in-Some-clause-goes_on : goal.returns-in-Some-clause-goes_on
returns-in-Some-clause-goes_on g c =
    rw (← c.self.view_is)
    (end_advances _ _ c.in-Some.taken.client c.in-Some.taken.number _ (λ account h. ends_of (c.make_reply.ensures.«open» account h)) (λ h k. (c.make_reply.ensures.closed h).found k))

pub returns-in-Some-clause-over : goal.returns-in-Some-clause-over
returns-in-Some-clause-over g c =
    let runs = rw c.number.ensures at c.take.ensures.found in
    rw (← c.self.view_is) runs

pub returns-in-Some-clause-numbers : goal.returns-in-Some-clause-numbers
returns-in-Some-clause-numbers g c = rw (← c.self.view_is) c.take.ensures.numbers

pub returns-in-Some-clause-counted : goal.returns-in-Some-clause-counted
returns-in-Some-clause-counted g c =
    let exact : Exact g.R.Key.Ord.cmp = record { total = g.met.R.Key.Ord.total; exact = (g.met.R.Rules.lawful c.self.inside.memos.rules []).exact } in
    let w = c.self.invariant in
    let here = sym (rw c.number.ensures at (c.in-Some.ensures {u = tt}).value) in
    let runs = rw c.number.ensures at c.take.ensures.found in
    let may = rw (← c.self.view_is) at c.requires.may in
    rw (← c.self.view_is)
    (λ log x. ends_counted g.R.Key.Ord.cmp exact (g.R.Rules.machine c.self.inside.memos.rules) g.M.Stamp.point (store_of c.self.inside) c.take.new.self.items c.args.run c.in-Some.taken here w.runs runs log c.args.ending
    (may_fits g.R.Key.Ord.cmp g.M.Stamp.point (g.R.Rules.machine c.self.inside.memos.rules) (store_of c.self.inside) c.args.run c.args.ending c.in-Some.taken may here)
    (λ early. (current g.R.Key.Ord.cmp (g.R.Rules.machine c.self.inside.memos.rules) g.M.Stamp.point told_puts (held (store_of c.self.inside)) w.ledger.0 c.args.run c.in-Some.taken w.ledger.1
    (run_here g.R.Key.Ord.cmp (g.R.Rules.machine c.self.inside.memos.rules) g.M.Stamp.point told_puts (held (store_of c.self.inside)) w.ledger.0 c.args.run c.in-Some.taken w.ledger.1 here) early).1) x)
