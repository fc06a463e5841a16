use Rattle.std.proofs.Common.{◌≡◌, ◌+◌, ◌<◌, ◌^◌, arith}
use Rattle.pq_core.proofs.Trays.{put_kept, held_kept, lets_put, lets_full, lets_gone, lets_nothing}
use Rattle.pq_core.proofs.lanes.lane.Lane.release.Goals as goal

pub let_out-requires-clause-put : goal.let_out-requires-clause-put
let_out-requires-clause-put g c = c.self.invariant.count _ c.in-Some.is

pub let_out-requires-clause-numbered : goal.let_out-requires-clause-numbered
let_out-requires-clause-numbered g c = λ ready get.
    let e : ready.reply.number ≡ c.self.inside.put + 0 = (c.self.invariant.placed 0 ready get).0 in
    omega arith

pub overflow_add-self : goal.overflow_add-self
overflow_add-self g c =
    let w = c.in-Put.ensures in
    let e : w.0.reply.number ≡ c.self.inside.put + 0 = (c.self.invariant.placed 0 w.0 w.1).0 in
    let below : w.0.reply.number + 1 < 2 ^ 64 = w.2.below in
    omega arith

pub invariant_of-self-in-Put : goal.invariant_of-self-in-Put
invariant_of-self-in-Put g c =
    let w = c.in-Put.ensures in
    rw w.6 (put_kept _ _ _ _ _ w.0 c.self.invariant (record { open_yet = c.in-Some.is; next = w.1 }) w.4)

pub returns-in-Put : goal.returns-in-Put
returns-in-Put g c =
    let w = c.in-Put.ensures in
    rw (← c.self.view_is) (lets_put g.O.Outbox.puts g.O.Outbox.takes g.O.Outbox.was_full g.O.Outbox.was_gone _ _ _ _ _ w.0 (record { open_yet = c.in-Some.is; next = w.1 }) w.3 w.4 w.5 w.6)

pub invariant_of-self-in-Full : goal.invariant_of-self-in-Full
invariant_of-self-in-Full g c =
    let w = c.in-Full.ensures in
    rw w.5 (held_kept _ _ _ _ _ _ c.self.invariant c.in-Some.is w.2)

pub returns-in-Full : goal.returns-in-Full
returns-in-Full g c =
    let w = c.in-Full.ensures in
    rw (← c.self.view_is) (lets_full g.O.Outbox.puts g.O.Outbox.takes g.O.Outbox.was_full g.O.Outbox.was_gone _ _ _ _ w.0 (record { open_yet = c.in-Some.is; next = w.1 }) w.2 w.3 w.4 w.5)

pub invariant_of-self-in-Gone : goal.invariant_of-self-in-Gone
invariant_of-self-in-Gone g c =
    let w = c.in-Gone.ensures in
    rw w.5 (held_kept _ _ _ _ _ _ c.self.invariant c.in-Some.is w.2)

pub returns-in-Gone : goal.returns-in-Gone
returns-in-Gone g c =
    let w = c.in-Gone.ensures in
    rw (← c.self.view_is) (lets_gone g.O.Outbox.puts g.O.Outbox.takes g.O.Outbox.was_full g.O.Outbox.was_gone _ _ _ _ w.0 (record { open_yet = c.in-Some.is; next = w.1 }) w.2 w.3 w.4 w.5)

pub returns-in-Nothing : goal.returns-in-Nothing
returns-in-Nothing g c =
    let w = c.in-Nothing.ensures in
    rw (← c.self.view_is) (lets_nothing g.O.Outbox.puts g.O.Outbox.takes g.O.Outbox.was_full g.O.Outbox.was_gone _ _ _ _ c.in-Some.is w.0 w.1 w.2)
