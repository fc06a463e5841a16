use Rattle.std.proofs.Common.{refl}
use Rattle.pq_core.proofs.CorePassing.{call_moved, call_whole}
use Rattle.pq_core.specs.Moves.{Releases}
use Rattle.pq_core.specs.declared.values.moves.Released.TheVariants.{Put as ReleasedPut, Full as ReleasedFull, Gone as ReleasedGone, Nothing as ReleasedNothing}
use Rattle.pq_core.proofs.CoreLeaving.{release_none_so, release_held_so, release_put_so, not_full, not_gone, not_nothing}
use Rattle.pq_core.proofs.lanes.cores.Core.release.Goals as goal

pub returns-in-None-clause-moved : goal.returns-in-None-clause-moved
returns-in-None-clause-moved g c =
    let x = c.in-None.ensures.none in
    rw (← c.self.view_is) (call_moved g.R.Key.Ord.cmp g.R.Rules.machine g.M.Stamp.point g.O.Outbox.puts (Releases g.O.Outbox.puts g.O.Outbox.takes g.O.Outbox.was_full g.O.Outbox.was_gone c.args.client ReleasedNothing) c.self.inside.store c.self.inside.store c.self.inside.lanes c.release_in.new.lanes
    (λ l s. release_none_so g.R.Key.Ord.cmp (g.R.Rules.machine c.self.inside.store.rules) g.M.Stamp.point g.O.Outbox.puts g.O.Outbox.takes g.O.Outbox.was_full g.O.Outbox.was_gone c.args.client c.self.inside.store c.self.inside.lanes c.release_in.new.lanes l c.self.invariant.none_handed s x.0 x.1.found x.1.above))

pub invariant_of-self : goal.invariant_of-self
invariant_of-self g c =
    let x = c.in-None.ensures.none in
    call_whole g.R.Key.Ord.cmp g.R.Rules.machine g.M.Stamp.point g.O.Outbox.puts (Releases g.O.Outbox.puts g.O.Outbox.takes g.O.Outbox.was_full g.O.Outbox.was_gone c.args.client ReleasedNothing) c.self.inside.store c.self.inside.store c.self.inside.lanes c.release_in.new.lanes c.self.invariant (refl)
    (λ l s. release_none_so g.R.Key.Ord.cmp (g.R.Rules.machine c.self.inside.store.rules) g.M.Stamp.point g.O.Outbox.puts g.O.Outbox.takes g.O.Outbox.was_full g.O.Outbox.was_gone c.args.client c.self.inside.store c.self.inside.lanes c.release_in.new.lanes l c.self.invariant.none_handed s x.0 x.1.found x.1.above)

pub returns-in-Full-clause-moved : goal.returns-in-Full-clause-moved
returns-in-Full-clause-moved g c =
    let x = (c.in-Some.ensures {u = tt}).some in
    rw (← c.self.view_is) (call_moved g.R.Key.Ord.cmp g.R.Rules.machine g.M.Stamp.point g.O.Outbox.puts (Releases g.O.Outbox.puts g.O.Outbox.takes g.O.Outbox.was_full g.O.Outbox.was_gone c.args.client ReleasedFull) c.self.inside.store c.self.inside.store c.self.inside.lanes c.release_in.new.lanes
    (λ l s. release_held_so g.R.Key.Ord.cmp (g.R.Rules.machine c.self.inside.store.rules) g.M.Stamp.point g.O.Outbox.puts g.O.Outbox.takes g.O.Outbox.was_full g.O.Outbox.was_gone c.args.client ReleasedFull c.self.inside.store c.self.inside.lanes c.release_in.new.lanes x.0 x.2 l c.self.invariant.none_handed s x.1 (rw c.in-Full.is at x.3) not_full x.5.found x.5.above))

pub invariant_of-self-in-Full : goal.invariant_of-self-in-Full
invariant_of-self-in-Full g c =
    let x = (c.in-Some.ensures {u = tt}).some in
    call_whole g.R.Key.Ord.cmp g.R.Rules.machine g.M.Stamp.point g.O.Outbox.puts (Releases g.O.Outbox.puts g.O.Outbox.takes g.O.Outbox.was_full g.O.Outbox.was_gone c.args.client ReleasedFull) c.self.inside.store c.self.inside.store c.self.inside.lanes c.release_in.new.lanes c.self.invariant (refl)
    (λ l s. release_held_so g.R.Key.Ord.cmp (g.R.Rules.machine c.self.inside.store.rules) g.M.Stamp.point g.O.Outbox.puts g.O.Outbox.takes g.O.Outbox.was_full g.O.Outbox.was_gone c.args.client ReleasedFull c.self.inside.store c.self.inside.lanes c.release_in.new.lanes x.0 x.2 l c.self.invariant.none_handed s x.1 (rw c.in-Full.is at x.3) not_full x.5.found x.5.above)

pub returns-in-Gone-clause-moved : goal.returns-in-Gone-clause-moved
returns-in-Gone-clause-moved g c =
    let x = (c.in-Some.ensures {u = tt}).some in
    rw (← c.self.view_is) (call_moved g.R.Key.Ord.cmp g.R.Rules.machine g.M.Stamp.point g.O.Outbox.puts (Releases g.O.Outbox.puts g.O.Outbox.takes g.O.Outbox.was_full g.O.Outbox.was_gone c.args.client ReleasedGone) c.self.inside.store c.self.inside.store c.self.inside.lanes c.release_in.new.lanes
    (λ l s. release_held_so g.R.Key.Ord.cmp (g.R.Rules.machine c.self.inside.store.rules) g.M.Stamp.point g.O.Outbox.puts g.O.Outbox.takes g.O.Outbox.was_full g.O.Outbox.was_gone c.args.client ReleasedGone c.self.inside.store c.self.inside.lanes c.release_in.new.lanes x.0 x.2 l c.self.invariant.none_handed s x.1 (rw c.in-Gone.is at x.3) not_gone x.5.found x.5.above))

pub invariant_of-self-in-Gone : goal.invariant_of-self-in-Gone
invariant_of-self-in-Gone g c =
    let x = (c.in-Some.ensures {u = tt}).some in
    call_whole g.R.Key.Ord.cmp g.R.Rules.machine g.M.Stamp.point g.O.Outbox.puts (Releases g.O.Outbox.puts g.O.Outbox.takes g.O.Outbox.was_full g.O.Outbox.was_gone c.args.client ReleasedGone) c.self.inside.store c.self.inside.store c.self.inside.lanes c.release_in.new.lanes c.self.invariant (refl)
    (λ l s. release_held_so g.R.Key.Ord.cmp (g.R.Rules.machine c.self.inside.store.rules) g.M.Stamp.point g.O.Outbox.puts g.O.Outbox.takes g.O.Outbox.was_full g.O.Outbox.was_gone c.args.client ReleasedGone c.self.inside.store c.self.inside.lanes c.release_in.new.lanes x.0 x.2 l c.self.invariant.none_handed s x.1 (rw c.in-Gone.is at x.3) not_gone x.5.found x.5.above)

pub returns-in-Nothing-clause-moved : goal.returns-in-Nothing-clause-moved
returns-in-Nothing-clause-moved g c =
    let x = (c.in-Some.ensures {u = tt}).some in
    rw (← c.self.view_is) (call_moved g.R.Key.Ord.cmp g.R.Rules.machine g.M.Stamp.point g.O.Outbox.puts (Releases g.O.Outbox.puts g.O.Outbox.takes g.O.Outbox.was_full g.O.Outbox.was_gone c.args.client ReleasedNothing) c.self.inside.store c.self.inside.store c.self.inside.lanes c.release_in.new.lanes
    (λ l s. release_held_so g.R.Key.Ord.cmp (g.R.Rules.machine c.self.inside.store.rules) g.M.Stamp.point g.O.Outbox.puts g.O.Outbox.takes g.O.Outbox.was_full g.O.Outbox.was_gone c.args.client ReleasedNothing c.self.inside.store c.self.inside.lanes c.release_in.new.lanes x.0 x.2 l c.self.invariant.none_handed s x.1 (rw c.in-Nothing.is at x.3) not_nothing x.5.found x.5.above))

pub invariant_of-self-in-Nothing : goal.invariant_of-self-in-Nothing
invariant_of-self-in-Nothing g c =
    let x = (c.in-Some.ensures {u = tt}).some in
    call_whole g.R.Key.Ord.cmp g.R.Rules.machine g.M.Stamp.point g.O.Outbox.puts (Releases g.O.Outbox.puts g.O.Outbox.takes g.O.Outbox.was_full g.O.Outbox.was_gone c.args.client ReleasedNothing) c.self.inside.store c.self.inside.store c.self.inside.lanes c.release_in.new.lanes c.self.invariant (refl)
    (λ l s. release_held_so g.R.Key.Ord.cmp (g.R.Rules.machine c.self.inside.store.rules) g.M.Stamp.point g.O.Outbox.puts g.O.Outbox.takes g.O.Outbox.was_full g.O.Outbox.was_gone c.args.client ReleasedNothing c.self.inside.store c.self.inside.lanes c.release_in.new.lanes x.0 x.2 l c.self.invariant.none_handed s x.1 (rw c.in-Nothing.is at x.3) not_nothing x.5.found x.5.above)

pub returns-in-Put-clause-moved : goal.returns-in-Put-clause-moved
returns-in-Put-clause-moved g c =
    let x = (c.in-Some.ensures {u = tt}).some in
    rw (← c.self.view_is) (call_moved g.R.Key.Ord.cmp g.R.Rules.machine g.M.Stamp.point g.O.Outbox.puts (Releases g.O.Outbox.puts g.O.Outbox.takes g.O.Outbox.was_full g.O.Outbox.was_gone c.args.client (ReleasedPut c.in-Put.number)) c.self.inside.store c.put_seen.new.self c.self.inside.lanes c.release_in.new.lanes
    (λ l s. release_put_so g.R.Key.Ord.cmp (g.R.Rules.machine c.self.inside.store.rules) g.M.Stamp.point g.O.Outbox.puts g.O.Outbox.takes g.O.Outbox.was_full g.O.Outbox.was_gone c.args.client c.in-Put.number c.self.inside.store c.put_seen.new.self c.self.inside.lanes c.release_in.new.lanes x.0 x.2 l c.self.invariant.none_handed s x.1 (rw c.in-Put.is at x.3) (rw x.4 at c.put_seen.ensures.moved) (λ k i y made. (c.put_seen.ensures.made k i y).1 made) x.5.found x.5.above))

pub invariant_of-self-in-Put : goal.invariant_of-self-in-Put
invariant_of-self-in-Put g c =
    let x = (c.in-Some.ensures {u = tt}).some in
    call_whole g.R.Key.Ord.cmp g.R.Rules.machine g.M.Stamp.point g.O.Outbox.puts (Releases g.O.Outbox.puts g.O.Outbox.takes g.O.Outbox.was_full g.O.Outbox.was_gone c.args.client (ReleasedPut c.in-Put.number)) c.self.inside.store c.put_seen.new.self c.self.inside.lanes c.release_in.new.lanes c.self.invariant (c.put_seen.ensures.rules)
    (λ l s. release_put_so g.R.Key.Ord.cmp (g.R.Rules.machine c.self.inside.store.rules) g.M.Stamp.point g.O.Outbox.puts g.O.Outbox.takes g.O.Outbox.was_full g.O.Outbox.was_gone c.args.client c.in-Put.number c.self.inside.store c.put_seen.new.self c.self.inside.lanes c.release_in.new.lanes x.0 x.2 l c.self.invariant.none_handed s x.1 (rw c.in-Put.is at x.3) (rw x.4 at c.put_seen.ensures.moved) (λ k i y made. (c.put_seen.ensures.made k i y).1 made) x.5.found x.5.above)

pub returns-in-Put-clause-counted : goal.returns-in-Put-clause-counted
returns-in-Put-clause-counted g c =
    rw (← c.self.view_is) c.put_seen.ensures.counted
