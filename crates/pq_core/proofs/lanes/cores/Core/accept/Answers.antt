use Rattle.std.proofs.Common.{◌∙◌}
use Rattle.pq_core.specs.Moves.{Accepts}
use Rattle.pq_core.specs.Told.{told_puts}
use Rattle.pq_core.proofs.Told.{accepts_told}
use Rattle.pq_core.proofs.CorePassing.{call_moved, call_whole, served}
use Rattle.pq_core.proofs.CoreServing.{accept_keeps}
use Rattle.pq_core.proofs.lanes.cores.Core.accept.Goals as goal

pub returns-clause-moved : goal.returns-clause-moved
returns-clause-moved g c =
    rw (← c.self.view_is) (call_moved g.R.Key.Ord.cmp g.R.Rules.machine g.M.Stamp.point g.O.Outbox.puts (Accepts g.O.Outbox.puts c.args.client c.args.request c.accept-answer.result) c.self.inside.store c.pass_on_all.new.store c.self.inside.lanes c.pass_on_all.new.lanes
    (served g.R.Key.Ord.cmp g.R.Rules.machine g.M.Stamp.point g.O.Outbox.puts (Accepts told_puts c.args.client c.args.request c.accept-answer.result) (Accepts g.O.Outbox.puts c.args.client c.args.request c.accept-answer.result) c.self.inside.store c.accept-answer.new.self c.pass_on_all.new.store c.self.inside.lanes c.pass_on_all.new.lanes c.self.invariant.none_handed c.accept-answer.ensures.moved (accepts_told g.O.Outbox.puts c.args.client c.args.request c.accept-answer.result) (accept_keeps g.O.Outbox.puts c.args.client c.args.request c.accept-answer.result) c.accept-answer.ensures.rules c.pass_on_all.ensures.passes c.pass_on_all.ensures.none))

pub invariant_of-self : goal.invariant_of-self
invariant_of-self g c =
    call_whole g.R.Key.Ord.cmp g.R.Rules.machine g.M.Stamp.point g.O.Outbox.puts (Accepts g.O.Outbox.puts c.args.client c.args.request c.accept-answer.result) c.self.inside.store c.pass_on_all.new.store c.self.inside.lanes c.pass_on_all.new.lanes c.self.invariant (c.pass_on_all.ensures.passes.rules ∙ c.accept-answer.ensures.rules)
    (served g.R.Key.Ord.cmp g.R.Rules.machine g.M.Stamp.point g.O.Outbox.puts (Accepts told_puts c.args.client c.args.request c.accept-answer.result) (Accepts g.O.Outbox.puts c.args.client c.args.request c.accept-answer.result) c.self.inside.store c.accept-answer.new.self c.pass_on_all.new.store c.self.inside.lanes c.pass_on_all.new.lanes c.self.invariant.none_handed c.accept-answer.ensures.moved (accepts_told g.O.Outbox.puts c.args.client c.args.request c.accept-answer.result) (accept_keeps g.O.Outbox.puts c.args.client c.args.request c.accept-answer.result) c.accept-answer.ensures.rules c.pass_on_all.ensures.passes c.pass_on_all.ensures.none)

pub returns-clause-counted : goal.returns-clause-counted
returns-clause-counted g c =
    rw (← c.self.view_is) (λ log x. (rw c.accept-answer.ensures.rules at c.pass_on_all.ensures.passes).counted _ (c.accept-answer.ensures.counted log x))
