use Rattle.std.proofs.Common.{arith}
use Rattle.pq_core.proofs.InTurn.{first_popped}
use Rattle.pq_core.proofs.Turned.{waits_at}
use Rattle.pq_core.proofs.store.queue.take_first.Goals as goal

pub take-seat-requires : goal.take-seat-requires
take-seat-requires c =
    let all = c.args.turns.now.ok.0 in
    let some = c.requires.some in
    waits_at c.args.turns.now.items _ (omega arith) c.requires.first c.index_mut.ensures.value

pub returns-clause-apart : goal.returns-clause-apart
returns-clause-apart c =
    let all = c.args.turns.now.ok.0 in
    let some = c.requires.some in
    let x = first_popped c.args.turns.now.items c.index_mut.result.now c.take-seat.new.self c.take-seat.result (omega arith) c.requires.apart c.index_mut.ensures.value
    c.take-seat.ensures.client c.take-seat.ensures.seats in
    rw c.rotate_left.ensures.items x.1

pub returns-clause-pops : goal.returns-clause-pops
returns-clause-pops c =
    let all = c.args.turns.now.ok.0 in
    let some = c.requires.some in
    let x = first_popped c.args.turns.now.items c.index_mut.result.now c.take-seat.new.self c.take-seat.result (omega arith) c.requires.apart c.index_mut.ensures.value
    c.take-seat.ensures.client c.take-seat.ensures.seats in
    rw c.rotate_left.ensures.items x.0
