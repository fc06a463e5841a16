use Rattle.std.proofs.Common.{refl}
use Rattle.pq_core.proofs.Making.{goes_by, all_same}
use Rattle.pq_core.proofs.StoreEditing.{edit_unmade}
use Rattle.pq_core.specs.Stores.{held}
use Rattle.pq_core.specs.Told.{told_puts}
use Rattle.pq_core.proofs.store.store.Store.edit_ranged.Goals as goal

pub returns-in-Err-clause-moved : goal.returns-in-Err-clause-moved
returns-in-Err-clause-moved g c =
    goes_by g.R.Key.Ord.cmp (g.R.Rules.machine c.args.self.now.rules) g.M.Stamp.point _ _ _ (all_same _ _ (λ k. refl))
    (λ l s. (
      l,
      (refl, edit_unmade g.R.Key.Ord.cmp (g.R.Rules.machine c.args.self.now.rules) g.M.Stamp.point told_puts (held c.args.self.now) c.args.client c.args.change l c.requires.may c.requires.ranged s, refl),
      s,
    ))
