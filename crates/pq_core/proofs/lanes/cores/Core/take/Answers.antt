use Rattle.std.proofs.Common.{refl}
use Rattle.pq_core.proofs.CorePassing.{call_moved, call_whole}
use Rattle.std.specs.Prelude.{Ok, false}
use Rattle.std.specs.declared.alloc.AllocError.{AllocError}
use Rattle.pq_core.specs.Moves.{TakesOut}
use Rattle.pq_core.proofs.CoreLeaving.{take_none_so, take_so}
use Rattle.pq_core.proofs.lanes.cores.Core.take.Goals as goal

pub returns-in-None-clause-moved : goal.returns-in-None-clause-moved
returns-in-None-clause-moved g c =
    let x = c.in-None.ensures.none in
    rw (← c.self.view_is) (call_moved g.R.Key.Ord.cmp g.R.Rules.machine g.M.Stamp.point g.O.Outbox.puts (TakesOut {A = AllocError} g.O.Outbox.puts g.O.Outbox.takes c.args.client (Ok false)) c.self.inside.store c.self.inside.store c.self.inside.lanes c.take_in.new.lanes
    (λ l s. take_none_so g.R.Key.Ord.cmp (g.R.Rules.machine c.self.inside.store.rules) g.M.Stamp.point g.O.Outbox.puts AllocError g.O.Outbox.takes c.args.client c.self.inside.store c.self.inside.lanes c.take_in.new.lanes l c.self.invariant.none_handed s x.0 x.1.found x.1.above))

pub invariant_of-self : goal.invariant_of-self
invariant_of-self g c =
    let x = c.in-None.ensures.none in
    call_whole g.R.Key.Ord.cmp g.R.Rules.machine g.M.Stamp.point g.O.Outbox.puts (TakesOut {A = AllocError} g.O.Outbox.puts g.O.Outbox.takes c.args.client (Ok false)) c.self.inside.store c.self.inside.store c.self.inside.lanes c.take_in.new.lanes c.self.invariant (refl)
    (λ l s. take_none_so g.R.Key.Ord.cmp (g.R.Rules.machine c.self.inside.store.rules) g.M.Stamp.point g.O.Outbox.puts AllocError g.O.Outbox.takes c.args.client c.self.inside.store c.self.inside.lanes c.take_in.new.lanes l c.self.invariant.none_handed s x.0 x.1.found x.1.above)

pub returns-in-Some-clause-moved : goal.returns-in-Some-clause-moved
returns-in-Some-clause-moved g c =
    let x = c.in-Some.ensures.some in
    rw (← c.self.view_is) (call_moved g.R.Key.Ord.cmp g.R.Rules.machine g.M.Stamp.point g.O.Outbox.puts (TakesOut g.O.Outbox.puts g.O.Outbox.takes c.args.client c.in-Some.taken) c.self.inside.store c.self.inside.store c.self.inside.lanes c.take_in.new.lanes
    (λ l s. take_so g.R.Key.Ord.cmp (g.R.Rules.machine c.self.inside.store.rules) g.M.Stamp.point g.O.Outbox.puts g.O.Outbox.takes c.args.client c.in-Some.taken c.self.inside.store c.self.inside.lanes c.take_in.new.lanes x.0 x.2 l c.self.invariant.none_handed s x.1 x.3 x.4.found x.4.above))

pub invariant_of-self-in-Some : goal.invariant_of-self-in-Some
invariant_of-self-in-Some g c =
    let x = c.in-Some.ensures.some in
    call_whole g.R.Key.Ord.cmp g.R.Rules.machine g.M.Stamp.point g.O.Outbox.puts (TakesOut g.O.Outbox.puts g.O.Outbox.takes c.args.client c.in-Some.taken) c.self.inside.store c.self.inside.store c.self.inside.lanes c.take_in.new.lanes c.self.invariant (refl)
    (λ l s. take_so g.R.Key.Ord.cmp (g.R.Rules.machine c.self.inside.store.rules) g.M.Stamp.point g.O.Outbox.puts g.O.Outbox.takes c.args.client c.in-Some.taken c.self.inside.store c.self.inside.lanes c.take_in.new.lanes x.0 x.2 l c.self.invariant.none_handed s x.1 x.3 x.4.found x.4.above)
