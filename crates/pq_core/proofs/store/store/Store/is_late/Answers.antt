use Rattle.pq_core.proofs.StoreRunning.{current, run_here}
use Rattle.pq_core.specs.Stores.{held}
use Rattle.pq_core.specs.Told.{told_puts}
use Rattle.pq_core.specs.aux.Inside.{store_of}
use Rattle.pq_core.proofs.store.store.Store.is_late.Goals as goal

pub returns-in-Some-clause-now : goal.returns-in-Some-clause-now
returns-in-Some-clause-now g c =
    rw (← c.self.view_is)
    (λ kept here early.
    let l = c.self.invariant.ledger in
    (current g.R.Key.Ord.cmp (g.R.Rules.machine c.self.inside.memos.rules) g.M.Stamp.point told_puts (held (store_of c.self.inside)) l.0 c.args.run kept l.1
    (run_here g.R.Key.Ord.cmp (g.R.Rules.machine c.self.inside.memos.rules) g.M.Stamp.point told_puts (held (store_of c.self.inside)) l.0 c.args.run kept l.1 here) early).1)

pub returns-in-None-clause-now : goal.returns-in-None-clause-now
returns-in-None-clause-now g c =
    rw (← c.self.view_is)
    (λ kept here early.
    let l = c.self.invariant.ledger in
    (current g.R.Key.Ord.cmp (g.R.Rules.machine c.self.inside.memos.rules) g.M.Stamp.point told_puts (held (store_of c.self.inside)) l.0 c.args.run kept l.1
    (run_here g.R.Key.Ord.cmp (g.R.Rules.machine c.self.inside.memos.rules) g.M.Stamp.point told_puts (held (store_of c.self.inside)) l.0 c.args.run kept l.1 here) early).1)
