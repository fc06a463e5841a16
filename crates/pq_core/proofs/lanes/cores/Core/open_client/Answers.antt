use Rattle.pq_core.proofs.Changing.{room_made}
use Rattle.pq_core.proofs.CoreServing.{next_above}
use Rattle.std.proofs.Common.{refl}
use Rattle.pq_core.proofs.CorePassing.{call_moved, call_whole}
use Rattle.std.specs.Prelude.{Ok, Err}
use Rattle.pq_core.specs.Moves.{Opens}
use Rattle.pq_core.specs.Told.{told_ledger}
use Rattle.pq_core.specs.declared.values.fault.OpenFault.TheVariants.{TooManyClients, Memory as OpenMemory}
use Rattle.pq_core.proofs.CoreServing.{open_none_so, open_memory_so, open_refused_so, open_so}
use Rattle.pq_core.proofs.lanes.cores.Core.open_client.Goals as goal

pub returns-in-None-clause-moved : goal.returns-in-None-clause-moved
returns-in-None-clause-moved g c =
    rw (← c.self.view_is) (call_moved g.R.Key.Ord.cmp g.R.Rules.machine g.M.Stamp.point g.O.Outbox.puts (Opens c.args.outbox (Err (record { fault = TooManyClients; outbox = c.args.outbox }))) c.self.inside.store c.self.inside.store c.self.inside.lanes c.self.inside.lanes
    (λ l s. open_none_so g.R.Key.Ord.cmp (g.R.Rules.machine c.self.inside.store.rules) g.M.Stamp.point g.O.Outbox.puts _ c.args.outbox c.self.inside.store c.self.inside.lanes l c.self.invariant.none_handed s refl refl (rw c.in-None.is at (c.next_client.ensures (told_ledger g.O.Outbox.puts l) s.store))))

pub returns-then-is_err-clause-moved : goal.returns-then-is_err-clause-moved
returns-then-is_err-clause-moved g c =
    rw (← c.self.view_is) (call_moved g.R.Key.Ord.cmp g.R.Rules.machine g.M.Stamp.point g.O.Outbox.puts (Opens c.args.outbox (Err (record { fault = OpenMemory; outbox = c.args.outbox }))) c.self.inside.store c.self.inside.store c.self.inside.lanes c.reserve.new.self
    (λ l s. open_memory_so g.R.Key.Ord.cmp (g.R.Rules.machine c.self.inside.store.rules) g.M.Stamp.point g.O.Outbox.puts _ c.args.outbox c.in-Some.client c.self.inside.store c.self.inside.lanes c.reserve.new.self l c.self.invariant.none_handed s refl refl (rw c.in-Some.is at (c.next_client.ensures (told_ledger g.O.Outbox.puts l) s.store)) c.reserve.ensures.same))

pub invariant_of-self : goal.invariant_of-self
invariant_of-self g c =
    call_whole g.R.Key.Ord.cmp g.R.Rules.machine g.M.Stamp.point g.O.Outbox.puts (Opens c.args.outbox (Err (record { fault = OpenMemory; outbox = c.args.outbox }))) c.self.inside.store c.self.inside.store c.self.inside.lanes c.reserve.new.self c.self.invariant (refl)
    (λ l s. open_memory_so g.R.Key.Ord.cmp (g.R.Rules.machine c.self.inside.store.rules) g.M.Stamp.point g.O.Outbox.puts _ c.args.outbox c.in-Some.client c.self.inside.store c.self.inside.lanes c.reserve.new.self l c.self.invariant.none_handed s refl refl (rw c.in-Some.is at (c.next_client.ensures (told_ledger g.O.Outbox.puts l) s.store)) c.reserve.ensures.same)

pub returns-in-Err-clause-moved : goal.returns-in-Err-clause-moved
returns-in-Err-clause-moved g c =
    rw (← c.self.view_is) (call_moved g.R.Key.Ord.cmp g.R.Rules.machine g.M.Stamp.point g.O.Outbox.puts (Opens c.args.outbox (Err (record { fault = OpenMemory; outbox = c.args.outbox }))) c.self.inside.store c.self.inside.store c.self.inside.lanes c.reserve.new.self
    (λ l s. open_memory_so g.R.Key.Ord.cmp (g.R.Rules.machine c.self.inside.store.rules) g.M.Stamp.point g.O.Outbox.puts _ c.args.outbox c.in-Some.client c.self.inside.store c.self.inside.lanes c.reserve.new.self l c.self.invariant.none_handed s refl refl (rw c.in-Some.is at (c.next_client.ensures (told_ledger g.O.Outbox.puts l) s.store)) c.reserve.ensures.same))

pub invariant_of-self-in-Err : goal.invariant_of-self-in-Err
invariant_of-self-in-Err g c =
    call_whole g.R.Key.Ord.cmp g.R.Rules.machine g.M.Stamp.point g.O.Outbox.puts (Opens c.args.outbox (Err (record { fault = OpenMemory; outbox = c.args.outbox }))) c.self.inside.store c.self.inside.store c.self.inside.lanes c.reserve.new.self c.self.invariant (refl)
    (λ l s. open_memory_so g.R.Key.Ord.cmp (g.R.Rules.machine c.self.inside.store.rules) g.M.Stamp.point g.O.Outbox.puts _ c.args.outbox c.in-Some.client c.self.inside.store c.self.inside.lanes c.reserve.new.self l c.self.invariant.none_handed s refl refl (rw c.in-Some.is at (c.next_client.ensures (told_ledger g.O.Outbox.puts l) s.store)) c.reserve.ensures.same)

pub returns-in-Err-open_client-clause-moved : goal.returns-in-Err-open_client-clause-moved
returns-in-Err-open_client-clause-moved g c =
    rw (← c.self.view_is) (call_moved g.R.Key.Ord.cmp g.R.Rules.machine g.M.Stamp.point g.O.Outbox.puts (Opens c.args.outbox (Err (record { fault = OpenMemory; outbox = c.args.outbox }))) c.self.inside.store c.open_client.new.self c.self.inside.lanes c.reserve.new.self
    (λ l s. open_refused_so g.R.Key.Ord.cmp (g.R.Rules.machine c.self.inside.store.rules) g.M.Stamp.point g.O.Outbox.puts _ c.args.outbox c.in-Some.client c.in-Err-open_client._refused c.self.inside.store c.open_client.new.self c.self.inside.lanes c.reserve.new.self l c.self.invariant.none_handed s refl refl (rw c.in-Some.is at (c.next_client.ensures (told_ledger g.O.Outbox.puts l) s.store)) (c.in-Err-open_client.ensures {u = tt}).moved c.reserve.ensures.same))

pub invariant_of-self-in-Err-open_client : goal.invariant_of-self-in-Err-open_client
invariant_of-self-in-Err-open_client g c =
    call_whole g.R.Key.Ord.cmp g.R.Rules.machine g.M.Stamp.point g.O.Outbox.puts (Opens c.args.outbox (Err (record { fault = OpenMemory; outbox = c.args.outbox }))) c.self.inside.store c.open_client.new.self c.self.inside.lanes c.reserve.new.self c.self.invariant ((c.in-Err-open_client.ensures {u = tt}).rules)
    (λ l s. open_refused_so g.R.Key.Ord.cmp (g.R.Rules.machine c.self.inside.store.rules) g.M.Stamp.point g.O.Outbox.puts _ c.args.outbox c.in-Some.client c.in-Err-open_client._refused c.self.inside.store c.open_client.new.self c.self.inside.lanes c.reserve.new.self l c.self.invariant.none_handed s refl refl (rw c.in-Some.is at (c.next_client.ensures (told_ledger g.O.Outbox.puts l) s.store)) (c.in-Err-open_client.ensures {u = tt}).moved c.reserve.ensures.same)

pub returns-in-Ok-open_client-clause-moved : goal.returns-in-Ok-open_client-clause-moved
returns-in-Ok-open_client-clause-moved g c =
    rw (← c.self.view_is) (call_moved g.R.Key.Ord.cmp g.R.Rules.machine g.M.Stamp.point g.O.Outbox.puts (Opens c.args.outbox (Ok c.in-Some.client)) c.self.inside.store c.open_client.new.self c.self.inside.lanes c.push_reserved.new.self
    (λ l s. open_so g.R.Key.Ord.cmp (g.R.Rules.machine c.self.inside.store.rules) g.M.Stamp.point g.O.Outbox.puts c.in-Some.client c.in-Ok-open_client._opened c.args.outbox c.self.inside.store c.open_client.new.self c.self.inside.lanes c.reserve.new.self c.push_reserved.new.self l c.requires c.self.invariant.none_handed s (rw c.in-Some.is at (c.next_client.ensures (told_ledger g.O.Outbox.puts l) s.store)) (c.in-Ok-open_client.ensures {u = tt}).moved c.reserve.ensures.same (rw c.number.ensures at (rw c.with_places-lane.ensures at c.push_reserved.ensures.found)) (rw c.number.ensures at c.push_reserved.ensures.above)))

pub invariant_of-self-in-Ok-open_client : goal.invariant_of-self-in-Ok-open_client
invariant_of-self-in-Ok-open_client g c =
    call_whole g.R.Key.Ord.cmp g.R.Rules.machine g.M.Stamp.point g.O.Outbox.puts (Opens c.args.outbox (Ok c.in-Some.client)) c.self.inside.store c.open_client.new.self c.self.inside.lanes c.push_reserved.new.self c.self.invariant ((c.in-Ok-open_client.ensures {u = tt}).rules)
    (λ l s. open_so g.R.Key.Ord.cmp (g.R.Rules.machine c.self.inside.store.rules) g.M.Stamp.point g.O.Outbox.puts c.in-Some.client c.in-Ok-open_client._opened c.args.outbox c.self.inside.store c.open_client.new.self c.self.inside.lanes c.reserve.new.self c.push_reserved.new.self l c.requires c.self.invariant.none_handed s (rw c.in-Some.is at (c.next_client.ensures (told_ledger g.O.Outbox.puts l) s.store)) (c.in-Ok-open_client.ensures {u = tt}).moved c.reserve.ensures.same (rw c.number.ensures at (rw c.with_places-lane.ensures at c.push_reserved.ensures.found)) (rw c.number.ensures at c.push_reserved.ensures.above))

pub push_reserved-requires-clause-room : goal.push_reserved-requires-clause-room
push_reserved-requires-clause-room g c =
    room_made c.reserve.result c.reserve.ensures.room c.if-is_err.false c.is_err.ensures.value

pub push_reserved-requires-clause-above : goal.push_reserved-requires-clause-above
push_reserved-requires-clause-above g c =
    let l = c.self.invariant.ledger in
    rw c.number.ensures
    (c.reserve.ensures.same.above _
    (next_above g.R.Key.Ord.cmp (g.R.Rules.machine c.self.inside.store.rules) g.M.Stamp.point g.O.Outbox.puts c.in-Some.client c.self.inside.store c.self.inside.lanes l.0 l.1 (rw c.in-Some.is at (c.next_client.ensures (told_ledger g.O.Outbox.puts l.0) l.1.store)) c.self.invariant.above))

pub returns-in-Err-open_client-clause-counted : goal.returns-in-Err-open_client-clause-counted
returns-in-Err-open_client-clause-counted g c =
    rw (← c.self.view_is) (c.in-Err-open_client.ensures {u = tt}).counted

pub returns-in-Ok-open_client-clause-counted : goal.returns-in-Ok-open_client-clause-counted
returns-in-Ok-open_client-clause-counted g c =
    rw (← c.self.view_is) (c.in-Ok-open_client.ensures {u = tt}).counted
