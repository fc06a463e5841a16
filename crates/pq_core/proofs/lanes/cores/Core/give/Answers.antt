use Rattle.std.proofs.Common.{◌∙◌}
use Rattle.pq_core.specs.Works.{DoneView}
use Rattle.pq_core.specs.Cores.{core_of}
use Rattle.pq_core.specs.Moves.{Gives}
use Rattle.pq_core.specs.Starts.{log_moved_in}
use Rattle.pq_core.specs.declared.values.fault.GiveRefused.{GiveRefused}
use Rattle.pq_core.proofs.Told.{gives_told}
use Rattle.pq_core.proofs.CorePassing.{call_moved, call_whole, served, seen_counted}
use Rattle.pq_core.proofs.CoreServing.{give_keeps}
use Rattle.pq_core.proofs.lanes.cores.Core.give.Goals as goal

pub returns-clause-moved : goal.returns-clause-moved
returns-clause-moved g c =
    rw (← c.self.view_is) (call_moved g.R.Key.Ord.cmp g.R.Rules.machine g.M.Stamp.point g.O.Outbox.puts (Gives c.args.run c.args.done c.give-answer.result) c.self.inside.store c.pass_on_all.new.store c.self.inside.lanes c.pass_on_all.new.lanes
    (served g.R.Key.Ord.cmp g.R.Rules.machine g.M.Stamp.point g.O.Outbox.puts (Gives c.args.run c.args.done c.give-answer.result) (Gives c.args.run c.args.done c.give-answer.result) c.self.inside.store c.give-answer.new.self c.pass_on_all.new.store c.self.inside.lanes c.pass_on_all.new.lanes c.self.invariant.none_handed c.give-answer.ensures.moved (gives_told g.O.Outbox.puts c.args.run c.args.done c.give-answer.result) (give_keeps g.O.Outbox.puts c.args.run c.args.done c.give-answer.result) c.give-answer.ensures.rules c.pass_on_all.ensures.passes c.pass_on_all.ensures.none))

pub invariant_of-self : goal.invariant_of-self
invariant_of-self g c =
    call_whole g.R.Key.Ord.cmp g.R.Rules.machine g.M.Stamp.point g.O.Outbox.puts (Gives c.args.run c.args.done c.give-answer.result) c.self.inside.store c.pass_on_all.new.store c.self.inside.lanes c.pass_on_all.new.lanes c.self.invariant (c.pass_on_all.ensures.passes.rules ∙ c.give-answer.ensures.rules)
    (served g.R.Key.Ord.cmp g.R.Rules.machine g.M.Stamp.point g.O.Outbox.puts (Gives c.args.run c.args.done c.give-answer.result) (Gives c.args.run c.args.done c.give-answer.result) c.self.inside.store c.give-answer.new.self c.pass_on_all.new.store c.self.inside.lanes c.pass_on_all.new.lanes c.self.invariant.none_handed c.give-answer.ensures.moved (gives_told g.O.Outbox.puts c.args.run c.args.done c.give-answer.result) (give_keeps g.O.Outbox.puts c.args.run c.args.done c.give-answer.result) c.give-answer.ensures.rules c.pass_on_all.ensures.passes c.pass_on_all.ensures.none)

pub returns-clause-counted : goal.returns-clause-counted
returns-clause-counted g c =
    seen_counted g.R.Key.Ord.cmp g.R.Rules.machine g.M.Stamp.point g.O.Outbox.puts (λ store log. log_moved_in {E = GiveRefused (DoneView g.row.R.Denot g.row.R-Key.Denot g.row.R-Part.Denot g.row.R-Value.Denot)} store c.args.run c.give-answer.result log) (core_of c.self.inside.store c.self.inside.lanes) _ (core_of c.pass_on_all.new.store c.pass_on_all.new.lanes) c.self.view_is
    (λ log x. (rw c.give-answer.ensures.rules at c.pass_on_all.ensures.passes).counted _ (c.give-answer.ensures.counted log x))

pub returns-clause-none_lost : goal.returns-clause-none_lost
returns-clause-none_lost g c =
    rw c.pass_on_all.ensures.passes.places (rw (← c.self.view_is) c.give-answer.ensures.none_lost)
