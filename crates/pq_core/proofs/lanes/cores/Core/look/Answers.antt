use Rattle.std.proofs.Common.{◌∙◌}
use Rattle.pq_core.specs.Cores.{core_of}
use Rattle.pq_core.specs.Moves.{Looks}
use Rattle.pq_core.specs.RightReply.{answer_by}
use Rattle.pq_core.specs.Starts.{log_moved_in}
use Rattle.pq_core.specs.declared.values.fault.LookFault.{LookFault}
use Rattle.pq_core.proofs.Told.{looks_told}
use Rattle.pq_core.proofs.CorePassing.{call_moved, call_whole, served, seen_moved, seen_counted}
use Rattle.pq_core.proofs.CoreServing.{look_keeps}
use Rattle.pq_core.proofs.lanes.cores.Core.look.Goals as goal

pub returns-clause-moved : goal.returns-clause-moved
returns-clause-moved g c =
    seen_moved g.R.Key.Ord.cmp g.R.Rules.machine g.M.Stamp.point g.O.Outbox.puts (λ rules. Looks g.R.Key.Ord.cmp (g.R.Rules.machine rules) g.M.Stamp.point rules c.args.run c.look-answer.result) (core_of c.self.inside.store c.self.inside.lanes) _ (core_of c.pass_on_all.new.store c.pass_on_all.new.lanes) c.self.view_is (call_moved g.R.Key.Ord.cmp g.R.Rules.machine g.M.Stamp.point g.O.Outbox.puts (Looks g.R.Key.Ord.cmp (g.R.Rules.machine c.self.inside.store.rules) g.M.Stamp.point c.self.inside.store.rules c.args.run c.look-answer.result) c.self.inside.store c.pass_on_all.new.store c.self.inside.lanes c.pass_on_all.new.lanes
    (served g.R.Key.Ord.cmp g.R.Rules.machine g.M.Stamp.point g.O.Outbox.puts (Looks g.R.Key.Ord.cmp (g.R.Rules.machine c.self.inside.store.rules) g.M.Stamp.point c.self.inside.store.rules c.args.run c.look-answer.result) (Looks g.R.Key.Ord.cmp (g.R.Rules.machine c.self.inside.store.rules) g.M.Stamp.point c.self.inside.store.rules c.args.run c.look-answer.result) c.self.inside.store c.look-answer.new.self c.pass_on_all.new.store c.self.inside.lanes c.pass_on_all.new.lanes c.self.invariant.none_handed c.look-answer.ensures.moved (looks_told g.O.Outbox.puts (answer_by g.R.Key.Ord.cmp (g.R.Rules.machine c.self.inside.store.rules) g.M.Stamp.point) c.self.inside.store.rules c.args.run c.look-answer.result) (look_keeps g.O.Outbox.puts (answer_by g.R.Key.Ord.cmp (g.R.Rules.machine c.self.inside.store.rules) g.M.Stamp.point) c.self.inside.store.rules c.args.run c.look-answer.result) c.look-answer.ensures.rules c.pass_on_all.ensures.passes c.pass_on_all.ensures.none))

pub invariant_of-self : goal.invariant_of-self
invariant_of-self g c =
    call_whole g.R.Key.Ord.cmp g.R.Rules.machine g.M.Stamp.point g.O.Outbox.puts (Looks g.R.Key.Ord.cmp (g.R.Rules.machine c.self.inside.store.rules) g.M.Stamp.point c.self.inside.store.rules c.args.run c.look-answer.result) c.self.inside.store c.pass_on_all.new.store c.self.inside.lanes c.pass_on_all.new.lanes c.self.invariant (c.pass_on_all.ensures.passes.rules ∙ c.look-answer.ensures.rules)
    (served g.R.Key.Ord.cmp g.R.Rules.machine g.M.Stamp.point g.O.Outbox.puts (Looks g.R.Key.Ord.cmp (g.R.Rules.machine c.self.inside.store.rules) g.M.Stamp.point c.self.inside.store.rules c.args.run c.look-answer.result) (Looks g.R.Key.Ord.cmp (g.R.Rules.machine c.self.inside.store.rules) g.M.Stamp.point c.self.inside.store.rules c.args.run c.look-answer.result) c.self.inside.store c.look-answer.new.self c.pass_on_all.new.store c.self.inside.lanes c.pass_on_all.new.lanes c.self.invariant.none_handed c.look-answer.ensures.moved (looks_told g.O.Outbox.puts (answer_by g.R.Key.Ord.cmp (g.R.Rules.machine c.self.inside.store.rules) g.M.Stamp.point) c.self.inside.store.rules c.args.run c.look-answer.result) (look_keeps g.O.Outbox.puts (answer_by g.R.Key.Ord.cmp (g.R.Rules.machine c.self.inside.store.rules) g.M.Stamp.point) c.self.inside.store.rules c.args.run c.look-answer.result) c.look-answer.ensures.rules c.pass_on_all.ensures.passes c.pass_on_all.ensures.none)

pub returns-clause-counted : goal.returns-clause-counted
returns-clause-counted g c =
    seen_counted g.R.Key.Ord.cmp g.R.Rules.machine g.M.Stamp.point g.O.Outbox.puts (λ store log. log_moved_in {E = LookFault} store c.args.run c.look-answer.result log) (core_of c.self.inside.store c.self.inside.lanes) _ (core_of c.pass_on_all.new.store c.pass_on_all.new.lanes) c.self.view_is
    (λ log x. (rw c.look-answer.ensures.rules at c.pass_on_all.ensures.passes).counted _ (c.look-answer.ensures.counted log x))

pub returns-clause-cause : goal.returns-clause-cause
returns-clause-cause g c =
    rw (← c.self.view_is) c.look-answer.ensures.cause

pub returns-clause-handed : goal.returns-clause-handed
returns-clause-handed g c =
    rw (← c.self.view_is) c.look-answer.ensures.handed

pub returns-clause-holder : goal.returns-clause-holder
returns-clause-holder g c =
    rw c.pass_on_all.ensures.passes.claims c.look-answer.ensures.holder
