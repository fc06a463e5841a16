use Rattle.std.proofs.Common.{sym}
use Rattle.pq_core.specs.Told.{told_puts}
use Rattle.pq_core.specs.Stores.{held}
use Rattle.pq_core.specs.aux.Inside.{store_of}
use Rattle.pq_core.proofs.WithdrawOne.{owed_run_of}
use Rattle.pq_core.proofs.store.store.Store.owed.Goals as goal

pub returns-in-Some-clause-of_client : goal.returns-in-Some-clause-of_client
returns-in-Some-clause-of_client g c =
    let w = c.self.invariant.ledger in
    rw (← c.self.view_is)
    (owed_run_of g.R.Key.Ord.cmp (g.R.Rules.machine c.self.inside.memos.rules) g.M.Stamp.point told_puts (held (store_of c.self.inside)) w.0 c.args.client c.args.number c.in-Some.account.now c.args.label.now c.owed.result
    w.1 (sym (c.in-Some.ensures {u = tt})) c.owed.ensures)
