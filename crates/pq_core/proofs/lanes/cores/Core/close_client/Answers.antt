use Rattle.std.proofs.Common.{refl, sym}
use Rattle.pq_core.proofs.CorePassing.{call_moved, call_whole}
use Rattle.std.specs.Prelude.{None}
use Rattle.pq_core.specs.Moves.{Closes}
use Rattle.pq_core.proofs.Changing.{none_taken}
use Rattle.pq_core.proofs.CoreLeaving.{close_none_so, close_so}
use Rattle.pq_core.proofs.lanes.cores.Core.close_client.Goals as goal

pub returns-in-None-clause-moved : goal.returns-in-None-clause-moved
returns-in-None-clause-moved g c =
    rw (← c.self.view_is) (call_moved g.R.Key.Ord.cmp g.R.Rules.machine g.M.Stamp.point g.O.Outbox.puts (Closes c.args.client None) c.self.inside.store c.self.inside.store c.self.inside.lanes c.take.new.self
    (λ l s. close_none_so g.R.Key.Ord.cmp (g.R.Rules.machine c.self.inside.store.rules) g.M.Stamp.point g.O.Outbox.puts c.args.client c.self.inside.store c.self.inside.lanes c.take.new.self l c.self.invariant.none_handed s (sym (rw c.number.ensures at c.in-None.ensures.value)) (none_taken c.self.inside.lanes c.take.new.self c.number.result (sym c.in-None.ensures.value) c.take.ensures.found c.take.ensures.above c.take.ensures.room).found (none_taken c.self.inside.lanes c.take.new.self c.number.result (sym c.in-None.ensures.value) c.take.ensures.found c.take.ensures.above c.take.ensures.room).above))

pub invariant_of-self : goal.invariant_of-self
invariant_of-self g c =
    call_whole g.R.Key.Ord.cmp g.R.Rules.machine g.M.Stamp.point g.O.Outbox.puts (Closes c.args.client None) c.self.inside.store c.self.inside.store c.self.inside.lanes c.take.new.self c.self.invariant (refl)
    (λ l s. close_none_so g.R.Key.Ord.cmp (g.R.Rules.machine c.self.inside.store.rules) g.M.Stamp.point g.O.Outbox.puts c.args.client c.self.inside.store c.self.inside.lanes c.take.new.self l c.self.invariant.none_handed s (sym (rw c.number.ensures at c.in-None.ensures.value)) (none_taken c.self.inside.lanes c.take.new.self c.number.result (sym c.in-None.ensures.value) c.take.ensures.found c.take.ensures.above c.take.ensures.room).found (none_taken c.self.inside.lanes c.take.new.self c.number.result (sym c.in-None.ensures.value) c.take.ensures.found c.take.ensures.above c.take.ensures.room).above)

pub returns-in-Some-clause-moved : goal.returns-in-Some-clause-moved
returns-in-Some-clause-moved g c =
    rw (← c.self.view_is) (call_moved g.R.Key.Ord.cmp g.R.Rules.machine g.M.Stamp.point g.O.Outbox.puts (Closes c.args.client c.close.result) c.self.inside.store c.close_client-was_open.new.self c.self.inside.lanes c.take.new.self
    (λ l s. close_so g.R.Key.Ord.cmp (g.R.Rules.machine c.self.inside.store.rules) g.M.Stamp.point g.O.Outbox.puts c.args.client c.close.result c.close_client-was_open.result c.self.inside.store c.close_client-was_open.new.self c.self.inside.lanes c.take.new.self c.in-Some.taken c.close.new.self l c.self.invariant.none_handed s (sym (rw c.number.ensures at c.in-Some.ensures.value)) c.close_client-was_open.ensures.moved c.close.ensures (rw c.number.ensures at c.take.ensures.found) c.take.ensures.above))

pub invariant_of-self-in-Some : goal.invariant_of-self-in-Some
invariant_of-self-in-Some g c =
    call_whole g.R.Key.Ord.cmp g.R.Rules.machine g.M.Stamp.point g.O.Outbox.puts (Closes c.args.client c.close.result) c.self.inside.store c.close_client-was_open.new.self c.self.inside.lanes c.take.new.self c.self.invariant (c.close_client-was_open.ensures.rules)
    (λ l s. close_so g.R.Key.Ord.cmp (g.R.Rules.machine c.self.inside.store.rules) g.M.Stamp.point g.O.Outbox.puts c.args.client c.close.result c.close_client-was_open.result c.self.inside.store c.close_client-was_open.new.self c.self.inside.lanes c.take.new.self c.in-Some.taken c.close.new.self l c.self.invariant.none_handed s (sym (rw c.number.ensures at c.in-Some.ensures.value)) c.close_client-was_open.ensures.moved c.close.ensures (rw c.number.ensures at c.take.ensures.found) c.take.ensures.above)

pub returns-in-Some-clause-counted : goal.returns-in-Some-clause-counted
returns-in-Some-clause-counted g c =
    rw (← c.self.view_is) c.close_client-was_open.ensures.counted
