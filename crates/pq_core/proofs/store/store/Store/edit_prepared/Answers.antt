use Rattle.std.proofs.Common.{refl}
use Rattle.pq_core.proofs.Making.{goes_by, all_same}
use Rattle.pq_core.proofs.StoreEditing.{edit_refusal_so}
use Rattle.pq_core.specs.Stores.{held}
use Rattle.pq_core.specs.Told.{told_puts}
use Rattle.pq_core.specs.aux.Accepting.{MayNotEdit}
use Rattle.pq_core.proofs.store.store.Store.edit_prepared.Goals as goal

pub returns-in-Some-clause-moved : goal.returns-in-Some-clause-moved
returns-in-Some-clause-moved g c =
    let refused : MayNotEdit (held c.args.self.now) c.args.client c.in-Some.fault = rw c.number.ensures at (c.in-Some.ensures {u = tt}).refused in
    rw (← c.prepared.view_is)
    (goes_by g.R.Key.Ord.cmp (g.R.Rules.machine c.args.self.now.rules) g.M.Stamp.point _ _ _ (all_same _ _ (λ k. refl))
    (λ l s. (
      l,
      (refl, edit_refusal_so g.R.Key.Ord.cmp (g.R.Rules.machine c.args.self.now.rules) g.M.Stamp.point told_puts _ l c.args.client c.prepared.inside.change c.in-Some.fault s refused, refl),
      s,
    )))
