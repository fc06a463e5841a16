use Rattle.std.proofs.Common.{sym, ◌∙◌, ap}
use Rattle.pq_core.specs.Told.{told_puts}
use Rattle.pq_core.specs.aux.Stands.{RunSeen}
use Rattle.pq_core.specs.aux.Runs.{RunView}
use Rattle.pq_core.proofs.StoreRunning.{run_here, no_run}
use Rattle.pq_core.proofs.store.store.Store.request_of.Goals as goal

pub returns-in-Some : goal.returns-in-Some
returns-in-Some g c =
    let here = sym (rw c.number.ensures at (c.in-Some.ensures {u = tt})) in
    rw (← c.self.view_is)
    (λ l s.
    let x = run_here g.R.Key.Ord.cmp (g.R.Rules.machine c.self.inside.memos.rules) g.M.Stamp.point told_puts _ l c.args.run c.in-Some.run'.now s here in (
      x.at,
      x.runs,
      c.new.ensures ∙ (ap (λ (y : RunView g.row.R-Key.Denot g.row.R-Part.Denot). y.client) c.run.view_is ∙ ap (λ (y : RunSeen g.row.R-Key.Denot). y.client) x.same),
      c.new-in-Some.ensures ∙ (ap (λ (y : RunView g.row.R-Key.Denot g.row.R-Part.Denot). y.number) c.run.view_is ∙ ap (λ (y : RunSeen g.row.R-Key.Denot). y.number) x.same),
    ))

pub returns-in-None : goal.returns-in-None
returns-in-None g c =
    rw (← c.self.view_is)
    (λ l s. no_run g.R.Key.Ord.cmp (g.R.Rules.machine c.self.inside.memos.rules) g.M.Stamp.point told_puts _ l c.args.run s
    (sym (rw c.number.ensures at (c.in-None.ensures {u = tt}))))
