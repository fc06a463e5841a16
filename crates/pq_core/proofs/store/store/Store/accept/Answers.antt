use Rattle.std.proofs.Common.{◌≤◌, [], length, Some, ap, refl, sym, ◌∙◌, subst, arith}
use Rattle.pq_core.proofs.Making.{goes_by, all_same, all_set, advances_longer, first_not_collected}
use Rattle.pq_core.specs.Told.{told_puts}
use Rattle.pq_core.specs.Stores.{StoreView, held}
use Rattle.pq_core.specs.aux.Accepting.{MayNot, MayPost}
use Rattle.pq_core.proofs.RunsKept.{same_runs}
use Rattle.pq_core.proofs.StoreOpening.{unmoved}
use Rattle.pq_core.proofs.StoreAccepting.{accept_refusal_so, may_post, accept_moved, queue_room, ready_so, not_full, false_true}
use Rattle.pq_core.proofs.Queued.{queue_same, queue_pushed, queue_fixed}
use Rattle.pq_rules.proofs.Weight.{Exact}
use Rattle.pq_memo.specs.Table.{memo_at}
use Rattle.pq_core.proofs.StoreCounting.{same_counted}
use Rattle.pq_core.specs.aux.Inside.{store_of}
use Rattle.pq_core.proofs.store.store.Store.accept.Goals as goal

pub returns-in-Some-clause-moved : goal.returns-in-Some-clause-moved
returns-in-Some-clause-moved g c =
    let refused : MayNot (held (store_of c.self.inside)) c.args.client c.in-Some.fault =
    subst (λ (v : StoreView g.row.R.Denot g.row.R-Key.Denot g.row.R-Part.Denot g.row.R-Value.Denot g.row.M.Denot). MayNot (held v) c.args.client c.in-Some.fault) (sym c.self.view_is)
    (rw c.number.ensures at (c.in-Some.ensures {u = tt}).refused) in
    rw (← c.self.view_is)
    (goes_by g.R.Key.Ord.cmp (g.R.Rules.machine c.self.inside.memos.rules) g.M.Stamp.point _ _ _ (all_same _ _ (λ k. refl))
    (λ l s. (
      l,
      (refl, accept_refusal_so g.R.Key.Ord.cmp (g.R.Rules.machine c.self.inside.memos.rules) g.M.Stamp.point told_puts _ l c.args.client c.in-Some.fault s refused, refl),
      s,
    )))

pub invariant_of-self : goal.invariant_of-self
invariant_of-self g c =
    let w = c.self.invariant in
    record {
      stamped = c.self.invariant.stamped;
      kept = w.kept;
      accounts_above = w.accounts_above;
      runs_above = c.make_room.ensures.runs.above c.self.inside.started w.runs_above;
      queue = rw c.make_room.ensures.queue w.queue;
      room =
          let a : length c.self.inside.waiting.seats ≤ c.self.inside.runs.room = w.room in
          let b : c.self.inside.runs.room ≤ c.make_room.new.runs.room = c.make_room.ensures.runs.room in
          rw c.make_room.ensures.queue (omega arith);
      runs = same_runs _ _ _ _ _ _ _ c.make_room.ensures.runs.found w.runs;
      ledger = (
        w.ledger.0,
        unmoved g.R.Key.Ord.cmp (g.R.Rules.machine c.self.inside.memos.rules) g.M.Stamp.point told_puts _ _ w.ledger.0
            (record {
              inputs = refl;
              accounts = λ k. refl;
              opened = refl;
              clients = refl;
              runs = λ k. c.make_room.ensures.runs.found k;
              started = refl;
            })
            w.ledger.1,
      );
    }

pub returns-then-is_err-clause-moved : goal.returns-then-is_err-clause-moved
returns-then-is_err-clause-moved g c =
    let may : MayPost (held (store_of c.self.inside)) c.args.client =
    subst (λ (v : StoreView g.row.R.Denot g.row.R-Key.Denot g.row.R-Part.Denot g.row.R-Value.Denot g.row.M.Denot). MayPost (held v) c.args.client) (sym c.self.view_is)
    (rw c.number.ensures at (c.in_default.ensures {u = tt}).may) in
    rw (← c.self.view_is)
    (goes_by g.R.Key.Ord.cmp (g.R.Rules.machine c.self.inside.memos.rules) g.M.Stamp.point _ _ _ (all_same _ _ (λ k. refl))
    (λ l s. (
      l,
      (refl, may_post g.R.Key.Ord.cmp (g.R.Rules.machine c.self.inside.memos.rules) g.M.Stamp.point told_puts _ l c.args.client s may, refl),
      unmoved g.R.Key.Ord.cmp (g.R.Rules.machine c.self.inside.memos.rules) g.M.Stamp.point told_puts _ _ l
          (record {
            inputs = refl;
            accounts = λ k. refl;
            opened = refl;
            clients = refl;
            runs = λ k. c.make_room.ensures.runs.found k;
            started = refl;
          })
          s,
    )))

pub push_reserved-requires : goal.push_reserved-requires
push_reserved-requires g c =
    ready_so c.make_room.result c.make_room.ensures.room c.if-is_err.false c.is_err.ensures.value
    ∙ ap Some (c.number-2.ensures ∙ sym c.number-then-waits.ensures)

pub invariant_of-self-then-waits : goal.invariant_of-self-then-waits
invariant_of-self-then-waits g c =
    let w = c.self.invariant in
    let may : MayPost (held (store_of c.self.inside)) c.args.client =
    subst (λ (v : StoreView g.row.R.Denot g.row.R-Key.Denot g.row.R-Part.Denot g.row.R-Value.Denot g.row.M.Denot). MayPost (held v) c.args.client) (sym c.self.view_is) (rw c.number.ensures at (c.in_default.ensures {u = tt}).may) in
    let told = (c.in-Ok.ensures {u = tt}).accepted in
    let pushed = rw (c.number-then-waits.ensures, c.number-then-waits-2.ensures) at c.push_reserved.ensures in
    let was = sym c.make_room.ensures.queue ∙ pushed.was in
    let moved = accept_moved g.R.Key.Ord.cmp (g.R.Rules.machine c.self.inside.memos.rules) g.M.Stamp.point told_puts
    (held (store_of c.self.inside))
    (record (held (store_of c.self.inside)) { accounts = c.accept_in.new.accounts.items; runs = c.make_room.new.runs.items })
    c.args.client c.in-Ok.number c.now-revision.result c.args.request told.0 w.ledger.0 told.1
    (not_full (held (store_of c.self.inside)) c.args.client told.0 may told.1) told.3.found told.2 c.now-revision.ensures.now refl refl refl c.make_room.ensures.runs.found refl
    w.ledger.1 in
    record {
      stamped = c.self.invariant.stamped;
      kept = w.kept;
      accounts_above = told.3.above c.self.inside.clients w.accounts_above;
      runs_above = c.make_room.ensures.runs.above c.self.inside.started w.runs_above;
      queue = queue_pushed _ _ _ _ pushed.front pushed.back c.args.client c.in-Ok.number c.now-revision.result told.0 c.args.request c.args.request.want (c.is_demand-waits.ensures.0 c.if-waits.true)
          told.2 told.1 told.3.found was pushed.is w.queue;
      room = queue_room c.make_room.result _ _ pushed.front pushed.back _ c.make_room.ensures.run_room c.if-is_err.false c.is_err.ensures.value pushed.was pushed.is;
      runs = same_runs _ _ _ _ _ _ _ c.make_room.ensures.runs.found w.runs;
      ledger = (moved.0, moved.2);
    }

pub returns-then-waits-clause-moved : goal.returns-then-waits-clause-moved
returns-then-waits-clause-moved g c =
    let may : MayPost (held (store_of c.self.inside)) c.args.client =
    subst (λ (v : StoreView g.row.R.Denot g.row.R-Key.Denot g.row.R-Part.Denot g.row.R-Value.Denot g.row.M.Denot). MayPost (held v) c.args.client) (sym c.self.view_is) (rw c.number.ensures at (c.in_default.ensures {u = tt}).may) in
    let told = (c.in-Ok.ensures {u = tt}).accepted in
    rw (← c.self.view_is)
    (goes_by g.R.Key.Ord.cmp (g.R.Rules.machine c.self.inside.memos.rules) g.M.Stamp.point _ _ _ (all_set _ _ c.args.client told.0 _ told.1 told.3.found (advances_longer told.0 _ (first_not_collected _ _ c.args.client c.in-Ok.number c.args.request c.now-revision.result c.args.request.want)))
    (λ l s. accept_moved g.R.Key.Ord.cmp (g.R.Rules.machine c.self.inside.memos.rules) g.M.Stamp.point told_puts
    (held (store_of c.self.inside))
    (record (held (store_of c.self.inside)) { accounts = c.accept_in.new.accounts.items; runs = c.make_room.new.runs.items })
    c.args.client c.in-Ok.number c.now-revision.result c.args.request told.0 l told.1
    (not_full (held (store_of c.self.inside)) c.args.client told.0 may told.1) told.3.found told.2 c.now-revision.ensures.now refl refl refl c.make_room.ensures.runs.found refl
    s))

pub invariant_of-self-else-waits : goal.invariant_of-self-else-waits
invariant_of-self-else-waits g c =
    let w = c.self.invariant in
    let may : MayPost (held (store_of c.self.inside)) c.args.client =
    subst (λ (v : StoreView g.row.R.Denot g.row.R-Key.Denot g.row.R-Part.Denot g.row.R-Value.Denot g.row.M.Denot). MayPost (held v) c.args.client) (sym c.self.view_is) (rw c.number.ensures at (c.in_default.ensures {u = tt}).may) in
    let told = (c.in-Ok.ensures {u = tt}).accepted in
    let moved = accept_moved g.R.Key.Ord.cmp (g.R.Rules.machine c.self.inside.memos.rules) g.M.Stamp.point told_puts
    (held (store_of c.self.inside))
    (record (held (store_of c.self.inside)) { accounts = c.accept_in.new.accounts.items; runs = c.make_room.new.runs.items })
    c.args.client c.in-Ok.number c.now-revision.result c.args.request told.0 w.ledger.0 told.1
    (not_full (held (store_of c.self.inside)) c.args.client told.0 may told.1) told.3.found told.2 c.now-revision.ensures.now refl refl refl c.make_room.ensures.runs.found refl
    w.ledger.1 in
    record {
      stamped = c.self.invariant.stamped;
      kept = w.kept;
      accounts_above = told.3.above c.self.inside.clients w.accounts_above;
      runs_above = c.make_room.ensures.runs.above c.self.inside.started w.runs_above;
      queue =
          rw c.make_room.ensures.queue
          (queue_fixed _ _ _ c.args.client c.in-Ok.number c.now-revision.result told.0 c.args.request c.args.request.want (λ d. false_true (sym c.if-waits.false ∙ c.is_demand-waits.ensures.1 d))
          told.1 told.3.found w.queue);
      room =
          let a : length c.self.inside.waiting.seats ≤ c.self.inside.runs.room = w.room in
          let b : c.self.inside.runs.room ≤ c.make_room.new.runs.room = c.make_room.ensures.runs.room in
          rw c.make_room.ensures.queue (omega arith);
      runs = same_runs _ _ _ _ _ _ _ c.make_room.ensures.runs.found w.runs;
      ledger = (moved.0, moved.2);
    }

pub returns-in-Ok-clause-moved : goal.returns-in-Ok-clause-moved
returns-in-Ok-clause-moved g c =
    let may : MayPost (held (store_of c.self.inside)) c.args.client =
    subst (λ (v : StoreView g.row.R.Denot g.row.R-Key.Denot g.row.R-Part.Denot g.row.R-Value.Denot g.row.M.Denot). MayPost (held v) c.args.client) (sym c.self.view_is) (rw c.number.ensures at (c.in_default.ensures {u = tt}).may) in
    let told = (c.in-Ok.ensures {u = tt}).accepted in
    rw (← c.self.view_is)
    (goes_by g.R.Key.Ord.cmp (g.R.Rules.machine c.self.inside.memos.rules) g.M.Stamp.point _ _ _ (all_set _ _ c.args.client told.0 _ told.1 told.3.found (advances_longer told.0 _ (first_not_collected _ _ c.args.client c.in-Ok.number c.args.request c.now-revision.result c.args.request.want)))
    (λ l s. accept_moved g.R.Key.Ord.cmp (g.R.Rules.machine c.self.inside.memos.rules) g.M.Stamp.point told_puts
    (held (store_of c.self.inside))
    (record (held (store_of c.self.inside)) { accounts = c.accept_in.new.accounts.items; runs = c.make_room.new.runs.items })
    c.args.client c.in-Ok.number c.now-revision.result c.args.request told.0 l told.1
    (not_full (held (store_of c.self.inside)) c.args.client told.0 may told.1) told.3.found told.2 c.now-revision.ensures.now refl refl refl c.make_room.ensures.runs.found refl
    s))

pub invariant_of-self-in-Err : goal.invariant_of-self-in-Err
invariant_of-self-in-Err g c =
    let w = c.self.invariant in
    let same = (c.in-Err.ensures {u = tt}).refused in
    record {
      stamped = c.self.invariant.stamped;
      kept = w.kept;
      accounts_above = same.above c.self.inside.clients w.accounts_above;
      runs_above = c.make_room.ensures.runs.above c.self.inside.started w.runs_above;
      queue = rw c.make_room.ensures.queue (queue_same _ _ _ same.found w.queue);
      room =
          let a : length c.self.inside.waiting.seats ≤ c.self.inside.runs.room = w.room in
          let b : c.self.inside.runs.room ≤ c.make_room.new.runs.room = c.make_room.ensures.runs.room in
          rw c.make_room.ensures.queue (omega arith);
      runs = same_runs _ _ _ _ _ _ _ c.make_room.ensures.runs.found w.runs;
      ledger = (
        w.ledger.0,
        unmoved g.R.Key.Ord.cmp (g.R.Rules.machine c.self.inside.memos.rules) g.M.Stamp.point told_puts _ _ w.ledger.0
            (record {
              inputs = refl;
              accounts = λ k. same.found k;
              opened = refl;
              clients = refl;
              runs = λ k. c.make_room.ensures.runs.found k;
              started = refl;
            })
            w.ledger.1,
      );
    }

pub returns-in-Err-clause-moved : goal.returns-in-Err-clause-moved
returns-in-Err-clause-moved g c =
    let may : MayPost (held (store_of c.self.inside)) c.args.client =
    subst (λ (v : StoreView g.row.R.Denot g.row.R-Key.Denot g.row.R-Part.Denot g.row.R-Value.Denot g.row.M.Denot). MayPost (held v) c.args.client) (sym c.self.view_is) (rw c.number.ensures at (c.in_default.ensures {u = tt}).may) in
    let same = (c.in-Err.ensures {u = tt}).refused in
    rw (← c.self.view_is)
    (goes_by g.R.Key.Ord.cmp (g.R.Rules.machine c.self.inside.memos.rules) g.M.Stamp.point _ _ _ (all_same _ _ (λ k. same.found k))
    (λ l s. (
      l,
      ((c.in-Err.ensures {u = tt}).back, may_post g.R.Key.Ord.cmp (g.R.Rules.machine c.self.inside.memos.rules) g.M.Stamp.point told_puts _ l c.args.client s may, refl),
      unmoved g.R.Key.Ord.cmp (g.R.Rules.machine c.self.inside.memos.rules) g.M.Stamp.point told_puts _ _ l
          (record {
            inputs = refl;
            accounts = λ k. same.found k;
            opened = refl;
            clients = refl;
            runs = λ k. c.make_room.ensures.runs.found k;
            started = refl;
          })
          s,
    )))

pub returns-in-Some-clause-counted : goal.returns-in-Some-clause-counted
returns-in-Some-clause-counted g c =
    rw (← c.self.view_is) (λ log x. x)

pub returns-then-is_err-clause-counted : goal.returns-then-is_err-clause-counted
returns-then-is_err-clause-counted g c =
    let exact : Exact g.R.Key.Ord.cmp = record { total = g.met.R.Key.Ord.total; exact = (g.met.R.Rules.lawful c.self.inside.memos.rules []).exact } in
    rw (← c.self.view_is) (λ log x. same_counted g.R.Key.Ord.cmp exact (g.R.Rules.machine c.self.inside.memos.rules) c.self.inside.inputs log (memo_at g.R.Key.Ord.cmp c.self.inside.memos.places) c.self.inside.runs.items c.make_room.new.runs.items c.make_room.ensures.runs.found x)

pub returns-then-waits-clause-counted : goal.returns-then-waits-clause-counted
returns-then-waits-clause-counted g c =
    let exact : Exact g.R.Key.Ord.cmp = record { total = g.met.R.Key.Ord.total; exact = (g.met.R.Rules.lawful c.self.inside.memos.rules []).exact } in
    rw (← c.self.view_is) (λ log x. same_counted g.R.Key.Ord.cmp exact (g.R.Rules.machine c.self.inside.memos.rules) c.self.inside.inputs log (memo_at g.R.Key.Ord.cmp c.self.inside.memos.places) c.self.inside.runs.items c.make_room.new.runs.items c.make_room.ensures.runs.found x)

pub returns-in-Ok-clause-counted : goal.returns-in-Ok-clause-counted
returns-in-Ok-clause-counted g c =
    let exact : Exact g.R.Key.Ord.cmp = record { total = g.met.R.Key.Ord.total; exact = (g.met.R.Rules.lawful c.self.inside.memos.rules []).exact } in
    rw (← c.self.view_is) (λ log x. same_counted g.R.Key.Ord.cmp exact (g.R.Rules.machine c.self.inside.memos.rules) c.self.inside.inputs log (memo_at g.R.Key.Ord.cmp c.self.inside.memos.places) c.self.inside.runs.items c.make_room.new.runs.items c.make_room.ensures.runs.found x)

pub returns-in-Err-clause-counted : goal.returns-in-Err-clause-counted
returns-in-Err-clause-counted g c =
    let exact : Exact g.R.Key.Ord.cmp = record { total = g.met.R.Key.Ord.total; exact = (g.met.R.Rules.lawful c.self.inside.memos.rules []).exact } in
    rw (← c.self.view_is) (λ log x. same_counted g.R.Key.Ord.cmp exact (g.R.Rules.machine c.self.inside.memos.rules) c.self.inside.inputs log (memo_at g.R.Key.Ord.cmp c.self.inside.memos.places) c.self.inside.runs.items c.make_room.new.runs.items c.make_room.ensures.runs.found x)
