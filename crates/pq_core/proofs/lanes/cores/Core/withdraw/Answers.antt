use Rattle.std.proofs.Common.{◌∙◌}
use Rattle.pq_core.specs.Moves.{Withdraws}
use Rattle.pq_core.specs.Starts.{log_withdrawn_in}
use Rattle.pq_core.specs.Cores.{core_of}
use Rattle.pq_core.proofs.Told.{withdraws_told}
use Rattle.pq_core.proofs.CorePassing.{call_moved, call_whole, served, seen_counted}
use Rattle.pq_core.proofs.CoreServing.{withdraw_keeps}
use Rattle.pq_core.proofs.lanes.cores.Core.withdraw.Goals as goal

pub returns-clause-moved : goal.returns-clause-moved
returns-clause-moved g c =
    rw (← c.self.view_is) (call_moved g.R.Key.Ord.cmp g.R.Rules.machine g.M.Stamp.point g.O.Outbox.puts (Withdraws c.args.client c.args.label.now c.withdraw-answer.result) c.self.inside.store c.pass_on_all.new.store c.self.inside.lanes c.pass_on_all.new.lanes
    (served g.R.Key.Ord.cmp g.R.Rules.machine g.M.Stamp.point g.O.Outbox.puts (Withdraws c.args.client c.args.label.now c.withdraw-answer.result) (Withdraws c.args.client c.args.label.now c.withdraw-answer.result) c.self.inside.store c.withdraw-answer.new.self c.pass_on_all.new.store c.self.inside.lanes c.pass_on_all.new.lanes c.self.invariant.none_handed c.withdraw-answer.ensures.moved (withdraws_told g.O.Outbox.puts c.args.client c.args.label.now c.withdraw-answer.result) (withdraw_keeps g.O.Outbox.puts c.args.client c.args.label.now c.withdraw-answer.result) c.withdraw-answer.ensures.rules c.pass_on_all.ensures.passes c.pass_on_all.ensures.none))

pub invariant_of-self : goal.invariant_of-self
invariant_of-self g c =
    call_whole g.R.Key.Ord.cmp g.R.Rules.machine g.M.Stamp.point g.O.Outbox.puts (Withdraws c.args.client c.args.label.now c.withdraw-answer.result) c.self.inside.store c.pass_on_all.new.store c.self.inside.lanes c.pass_on_all.new.lanes c.self.invariant (c.pass_on_all.ensures.passes.rules ∙ c.withdraw-answer.ensures.rules)
    (served g.R.Key.Ord.cmp g.R.Rules.machine g.M.Stamp.point g.O.Outbox.puts (Withdraws c.args.client c.args.label.now c.withdraw-answer.result) (Withdraws c.args.client c.args.label.now c.withdraw-answer.result) c.self.inside.store c.withdraw-answer.new.self c.pass_on_all.new.store c.self.inside.lanes c.pass_on_all.new.lanes c.self.invariant.none_handed c.withdraw-answer.ensures.moved (withdraws_told g.O.Outbox.puts c.args.client c.args.label.now c.withdraw-answer.result) (withdraw_keeps g.O.Outbox.puts c.args.client c.args.label.now c.withdraw-answer.result) c.withdraw-answer.ensures.rules c.pass_on_all.ensures.passes c.pass_on_all.ensures.none)

pub returns-clause-counted : goal.returns-clause-counted
returns-clause-counted g c =
    seen_counted g.R.Key.Ord.cmp g.R.Rules.machine g.M.Stamp.point g.O.Outbox.puts (λ store log. log_withdrawn_in store c.args.client c.args.label.now c.withdraw-answer.result log) (core_of c.self.inside.store c.self.inside.lanes) _ (core_of c.pass_on_all.new.store c.pass_on_all.new.lanes) c.self.view_is
    (λ log x. (rw c.withdraw-answer.ensures.rules at c.pass_on_all.ensures.passes).counted _ (c.withdraw-answer.ensures.counted log x))
