use Rattle.std.proofs.Common.{◌≡◌, refl, sym, ◌∙◌, ap, None}
use Rattle.pq_core.proofs.Making.{goes_by, all_same}
use Rattle.pq_core.proofs.StoreEditing.{edit_misranged}
use Rattle.pq_core.specs.Moves.{text_made}
use Rattle.pq_core.specs.Preparing.{bytes_made}
use Rattle.pq_core.specs.Stores.{held}
use Rattle.pq_core.specs.Told.{told_puts}
use Rattle.std.specs.Option.{option_map}
use Rattle.std.specs.Prelude.{string_bytes}
use Rattle.pq_core.specs.Bodies.{body_view}
use Rattle.pq_core.specs.Changes.{set}
use Rattle.pq_core.proofs.TurnOfRuns.{goes_edit_as}
use Rattle.pq_core.proofs.store.store.Store.edit_made.Goals as goal

pub returns-in_default-clause-moved : goal.returns-in_default-clause-moved
returns-in_default-clause-moved g c =
    let bad : text_made c.args.self.now.inputs.files c.args.change ≡ None = sym c.requires.made ∙ ap bytes_made c.in_default.is in
    goes_by g.R.Key.Ord.cmp (g.R.Rules.machine c.args.self.now.rules) g.M.Stamp.point _ _ _ (all_same _ _ (λ k. refl))
    (λ l s. (
      l,
      (refl, edit_misranged g.R.Key.Ord.cmp (g.R.Rules.machine c.args.self.now.rules) g.M.Stamp.point told_puts (held c.args.self.now) c.args.client c.args.change l c.requires.may bad s, refl),
      s,
    ))

pub returns-in-Ok-clause-moved : goal.returns-in-Ok-clause-moved
returns-in-Ok-clause-moved g c =
    let made = sym (ap bytes_made c.in-Some.is) ∙ (rw (← c.change.view_is) at c.requires.made) in
    rw (← c.change.view_is)
    (goes_edit_as g.R.Key.Ord.cmp (g.R.Rules.machine c.args.self.now.rules) g.M.Stamp.point c.args.self.now c.edit_whole.new.self c.args.client c.in-Ok.revision c.change.inside.file c.change.inside.durability
    (set (option_map string_bytes c.in-Some.text)) (body_view c.change.inside.body) made (c.in-Ok.ensures {u = tt}).moved)
