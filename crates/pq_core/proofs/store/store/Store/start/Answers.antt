use Rattle.std.proofs.Common.{◌≡◌, ◌^◌, ◌≤◌, ◌+◌, ℕ, List, ◌++◌, length, refl, ◌∙◌, ap, inl, arith, []}
use Rattle.pq_core.proofs.Making.{goes_by, all_same, all_set, advances_staged}
use Rattle.pq_core.specs.Told.{told_puts}
use Rattle.pq_core.specs.Stores.{held, run_seen}
use Rattle.pq_core.proofs.Slots.{found_above}
use Rattle.pq_core.proofs.RunsKept.{started_runs}
use Rattle.pq_core.proofs.Changing.{above_next}
use Rattle.pq_core.proofs.Queued.{queue_passed, queue_started, long_passed}
use Rattle.pq_core.proofs.StoreAccepting.{run_past}
use Rattle.pq_core.proofs.StoreStarting.{seen_of, start_full, start_none, start_moved}
use Rattle.pq_rules.proofs.Weight.{Exact}
use Rattle.pq_memo.specs.Table.{memo_at}
use Rattle.pq_core.proofs.StoreCounting.{begun_counted}
use Rattle.pq_core.specs.aux.Inside.{store_of}
use Rattle.pq_core.proofs.store.store.Store.start.Goals as goal

pub start_in-request-requires : goal.start_in-request-requires
start_in-request-requires g c =
    let x = (c.in-Some.ensures {u = tt}).some in
    let q = rw x.was at c.self.invariant.queue in
    q.waits c.in-Some.client c.in-Some.number (inl refl)

pub invariant_of-self : goal.invariant_of-self
invariant_of-self g c =
    let w = c.self.invariant in
    let next = (c.in-Some.ensures {u = tt}).some in
    let q = queue_passed _ (c.in-Some.client, c.in-Some.number) next.own next.others (rw next.was at w.queue) in
    let x = c.start_in-request.ensures.0 in
    let set = c.start_in-request.ensures.1 in
    let moved = start_moved g.R.Key.Ord.cmp (g.R.Rules.machine c.self.inside.memos.rules) g.M.Stamp.point told_puts _ _ c.in-Some.client c.in-Some.number x.accepted x.account c.start_in-request.result c.new-made.result w.ledger.0
    x.here x.waits set.found c.push_reserved.ensures.found
    (rw c.new-made.ensures (ap (λ (t : ℕ). seen_of c.in-Some.client c.in-Some.number c.start_in-request.result t) c.now-revision.ensures.now))
    refl refl refl refl w.ledger.1 in
    record {
      stamped = c.self.invariant.stamped;
      kept = w.kept;
      accounts_above = set.above c.self.inside.clients w.accounts_above;
      runs_above = c.push_reserved.ensures.above (c.self.inside.started + 1) (omega arith) (above_next _ _ w.runs_above);
      queue = rw next.is (queue_started _ _ (next.others ++ next.own) c.in-Some.client c.in-Some.number x.accepted _ x.account c.start_in-request.result x.here x.waits set.found q);
      room =
          let a : length c.self.inside.waiting.seats ≤ c.self.inside.runs.room = w.room in
          let b : c.self.inside.runs.room ≤ c.push_reserved.new.self.room + 1 = c.push_reserved.ensures.room in
          let d = ap (λ (xs : List (ℕ × ℕ)). length xs) next.was in
          let e = ap (λ (xs : List (ℕ × ℕ)). length xs) next.is ∙ long_passed next.own next.others in
          omega (arith, a, b, d, e);
      runs = started_runs _ _ c.self.inside.inputs _ _ _ _ c.self.inside.started c.new-made.result c.push_reserved.ensures.found
          (found_above c.self.inside.started _ w.runs_above) (rw c.new-made.ensures refl) (rw c.new-made.ensures refl) (rw c.new-made.ensures (λ k. tt))
          (rw c.new-made.ensures c.now-revision.ensures.now)
          (λ s y h. run_past g.R.Key.Ord.cmp (g.R.Rules.machine c.self.inside.memos.rules) g.M.Stamp.point told_puts (held (store_of c.self.inside)) w.ledger.0 s y w.ledger.1 h) w.runs;
      ledger = (moved.0, moved.2);
    }

pub returns-in-Some-clause-moved : goal.returns-in-Some-clause-moved
returns-in-Some-clause-moved g c =
    let x = c.start_in-request.ensures.0 in
    let set = c.start_in-request.ensures.1 in
    let seen : run_seen c.new-made.result ≡ seen_of c.in-Some.client c.in-Some.number c.start_in-request.result c.self.inside.inputs.revision =
    rw c.new-made.ensures (ap (λ (t : ℕ). seen_of c.in-Some.client c.in-Some.number c.start_in-request.result t) c.now-revision.ensures.now) in
    rw (← c.self.view_is)
    (rw c.new.ensures
    (goes_by g.R.Key.Ord.cmp (g.R.Rules.machine c.self.inside.memos.rules) g.M.Stamp.point _ _ _
    (all_set _ _ c.in-Some.client x.account _ x.here set.found (advances_staged x.account c.in-Some.number _ _ x.waits tt tt))
    (λ l s. start_moved g.R.Key.Ord.cmp (g.R.Rules.machine c.self.inside.memos.rules) g.M.Stamp.point told_puts _ _ c.in-Some.client c.in-Some.number x.accepted x.account c.start_in-request.result c.new-made.result l
    x.here x.waits set.found c.push_reserved.ensures.found seen refl refl refl refl s)))

pub returns-then-self-clause-moved : goal.returns-then-self-clause-moved
returns-then-self-clause-moved g c =
    let used : 2 ^ 64 ≤ c.self.inside.started + 1 = omega arith in
    rw (← c.self.view_is)
    (goes_by g.R.Key.Ord.cmp (g.R.Rules.machine c.self.inside.memos.rules) g.M.Stamp.point _ _ _ (all_same _ _ (λ k. refl))
    (λ l s. start_full g.R.Key.Ord.cmp (g.R.Rules.machine c.self.inside.memos.rules) g.M.Stamp.point told_puts _ l used s))

pub returns-in-None-clause-moved : goal.returns-in-None-clause-moved
returns-in-None-clause-moved g c =
    let none = rw (c.in-None.ensures {u = tt}).none.0 at c.self.invariant.queue in
    rw (← c.self.view_is)
    (goes_by g.R.Key.Ord.cmp (g.R.Rules.machine c.self.inside.memos.rules) g.M.Stamp.point _ _ _ (all_same _ _ (λ k. refl))
    (λ l s. start_none g.R.Key.Ord.cmp (g.R.Rules.machine c.self.inside.memos.rules) g.M.Stamp.point told_puts _ l none s))

pub returns-in-Some-clause-counted : goal.returns-in-Some-clause-counted
returns-in-Some-clause-counted g c =
    let exact : Exact g.R.Key.Ord.cmp = record { total = g.met.R.Key.Ord.total; exact = (g.met.R.Rules.lawful c.self.inside.memos.rules []).exact } in
    rw (← c.self.view_is) (λ log x. begun_counted g.R.Key.Ord.cmp exact (g.R.Rules.machine c.self.inside.memos.rules) c.self.inside.inputs log (memo_at g.R.Key.Ord.cmp c.self.inside.memos.places) c.self.inside.runs.items c.push_reserved.new.self.items c.self.inside.started c.new-made.result c.push_reserved.ensures.found (found_above c.self.inside.started _ c.self.invariant.runs_above) x)

pub returns-in-None-clause-counted : goal.returns-in-None-clause-counted
returns-in-None-clause-counted g c =
    rw (← c.self.view_is) (λ log x. x)
