use Rattle.std.proofs.Common.{◌∙◌}
use Rattle.pq_core.specs.Moves.{Starves}
use Rattle.pq_core.specs.Starts.{log_starved_in}
use Rattle.pq_core.specs.Cores.{core_of}
use Rattle.pq_core.proofs.Told.{starves_told}
use Rattle.pq_core.proofs.CorePassing.{call_moved, call_whole, served, seen_counted}
use Rattle.pq_core.proofs.CoreServing.{starve_keeps}
use Rattle.pq_core.proofs.lanes.cores.Core.starve.Goals as goal

pub returns-clause-moved : goal.returns-clause-moved
returns-clause-moved g c =
    rw (← c.self.view_is) (call_moved g.R.Key.Ord.cmp g.R.Rules.machine g.M.Stamp.point g.O.Outbox.puts (Starves c.args.run c.starve-was_run.result) c.self.inside.store c.pass_on_all.new.store c.self.inside.lanes c.pass_on_all.new.lanes
    (served g.R.Key.Ord.cmp g.R.Rules.machine g.M.Stamp.point g.O.Outbox.puts (Starves c.args.run c.starve-was_run.result) (Starves c.args.run c.starve-was_run.result) c.self.inside.store c.starve-was_run.new.self c.pass_on_all.new.store c.self.inside.lanes c.pass_on_all.new.lanes c.self.invariant.none_handed c.starve-was_run.ensures.moved (starves_told g.O.Outbox.puts c.args.run c.starve-was_run.result) (starve_keeps g.O.Outbox.puts c.args.run c.starve-was_run.result) c.starve-was_run.ensures.rules c.pass_on_all.ensures.passes c.pass_on_all.ensures.none))

pub invariant_of-self : goal.invariant_of-self
invariant_of-self g c =
    call_whole g.R.Key.Ord.cmp g.R.Rules.machine g.M.Stamp.point g.O.Outbox.puts (Starves c.args.run c.starve-was_run.result) c.self.inside.store c.pass_on_all.new.store c.self.inside.lanes c.pass_on_all.new.lanes c.self.invariant (c.pass_on_all.ensures.passes.rules ∙ c.starve-was_run.ensures.rules)
    (served g.R.Key.Ord.cmp g.R.Rules.machine g.M.Stamp.point g.O.Outbox.puts (Starves c.args.run c.starve-was_run.result) (Starves c.args.run c.starve-was_run.result) c.self.inside.store c.starve-was_run.new.self c.pass_on_all.new.store c.self.inside.lanes c.pass_on_all.new.lanes c.self.invariant.none_handed c.starve-was_run.ensures.moved (starves_told g.O.Outbox.puts c.args.run c.starve-was_run.result) (starve_keeps g.O.Outbox.puts c.args.run c.starve-was_run.result) c.starve-was_run.ensures.rules c.pass_on_all.ensures.passes c.pass_on_all.ensures.none)

pub returns-clause-counted : goal.returns-clause-counted
returns-clause-counted g c =
    seen_counted g.R.Key.Ord.cmp g.R.Rules.machine g.M.Stamp.point g.O.Outbox.puts (λ store log. log_starved_in store c.args.run c.starve-was_run.result log) (core_of c.self.inside.store c.self.inside.lanes) _ (core_of c.pass_on_all.new.store c.pass_on_all.new.lanes) c.self.view_is
    (λ log x. (rw c.starve-was_run.ensures.rules at c.pass_on_all.ensures.passes).counted _ (c.starve-was_run.ensures.counted log x))
