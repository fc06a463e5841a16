use Rattle.std.proofs.Common.{◌≡◌, [], ◌∷◌, ◌++◌, subst}
use Rattle.pq_view.specs.aux.Touched.{HasNames}
use Rattle.pq_view.proofs.Editing.{has_names_push}
use Rattle.pq_view.proofs.edits.EditList.add.Goals as goal

pub invariant_of-self-then-branch : goal.invariant_of-self-then-branch
invariant_of-self-then-branch c =
    let pushed : c.self.inside.edits.items ++ c.args.edit ∷ [] ≡ c.push_reserved.new.self.items = cc (c.push_reserved.ensures.items, c.in_ok-reserve.ensures.items) in
    subst (HasNames c.insert.new.self) pushed
    (has_names_push c.self.inside.named c.insert.new.self c.self.inside.edits.items c.in_ok-key.key c.args.edit c.self.invariant c.in_ok-insert.ensures.updates.0 c.in_ok-key.ensures.copy)
