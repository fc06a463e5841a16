use Rattle.std.proofs.Common.{◌∙◌}
use Rattle.pq_core.specs.Moves.{Edits}
use Rattle.pq_core.proofs.Told.{edits_told}
use Rattle.pq_core.proofs.CorePassing.{call_moved, call_whole, served}
use Rattle.pq_core.proofs.CoreServing.{edit_keeps}
use Rattle.pq_core.proofs.lanes.cores.Core.edit.Goals as goal

pub returns-clause-moved : goal.returns-clause-moved
returns-clause-moved g c =
    rw (← c.self.view_is) (call_moved g.R.Key.Ord.cmp g.R.Rules.machine g.M.Stamp.point g.O.Outbox.puts (Edits c.args.client c.args.change c.edit-answer.result) c.self.inside.store c.pass_on_all.new.store c.self.inside.lanes c.pass_on_all.new.lanes
    (served g.R.Key.Ord.cmp g.R.Rules.machine g.M.Stamp.point g.O.Outbox.puts (Edits c.args.client c.args.change c.edit-answer.result) (Edits c.args.client c.args.change c.edit-answer.result) c.self.inside.store c.edit-answer.new.self c.pass_on_all.new.store c.self.inside.lanes c.pass_on_all.new.lanes c.self.invariant.none_handed c.edit-answer.ensures.moved (edits_told g.O.Outbox.puts c.args.client c.args.change c.edit-answer.result) (edit_keeps g.O.Outbox.puts c.args.client c.args.change c.edit-answer.result) c.edit-answer.ensures.rules c.pass_on_all.ensures.passes c.pass_on_all.ensures.none))

pub invariant_of-self : goal.invariant_of-self
invariant_of-self g c =
    call_whole g.R.Key.Ord.cmp g.R.Rules.machine g.M.Stamp.point g.O.Outbox.puts (Edits c.args.client c.args.change c.edit-answer.result) c.self.inside.store c.pass_on_all.new.store c.self.inside.lanes c.pass_on_all.new.lanes c.self.invariant (c.pass_on_all.ensures.passes.rules ∙ c.edit-answer.ensures.rules)
    (served g.R.Key.Ord.cmp g.R.Rules.machine g.M.Stamp.point g.O.Outbox.puts (Edits c.args.client c.args.change c.edit-answer.result) (Edits c.args.client c.args.change c.edit-answer.result) c.self.inside.store c.edit-answer.new.self c.pass_on_all.new.store c.self.inside.lanes c.pass_on_all.new.lanes c.self.invariant.none_handed c.edit-answer.ensures.moved (edits_told g.O.Outbox.puts c.args.client c.args.change c.edit-answer.result) (edit_keeps g.O.Outbox.puts c.args.client c.args.change c.edit-answer.result) c.edit-answer.ensures.rules c.pass_on_all.ensures.passes c.pass_on_all.ensures.none)

pub returns-clause-counted : goal.returns-clause-counted
returns-clause-counted g c =
    rw (← c.self.view_is) (λ log x. (rw c.edit-answer.ensures.rules at c.pass_on_all.ensures.passes).counted _ (c.edit-answer.ensures.counted log x))
