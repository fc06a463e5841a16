use Rattle.std.proofs.Common.{◌∙◌, arith}
use Rattle.pq_core.specs.aux.Queue.{is_other_seat}
use Rattle.pq_core.proofs.AccountMoves.{there_read}
use Rattle.pq_core.proofs.InTurn.{clients_set, apart_same}
use Rattle.pq_core.proofs.Turned.{dropped_at}
use Rattle.pq_core.proofs.store.queue.drop_number.Goals as goal

pub loop-place-preserved : goal.loop-place-preserved
loop-place-preserved c =
    let now = c.loop-place.turns.ok.0 in
    let old = c.args.turns.now.ok.0 in
    let less = c.loop-place-test.true in
    let all = c.len-place-end.ensures in
    let same = c.loop-place.invariant.0 in
    let here = there_read c.loop-place.turns.items c.loop-place.place c.index_mut.result.now (omega arith) c.index_mut.ensures.value in
    let own = clients_set c.loop-place.turns.items c.loop-place.place c.index_mut.result.now c.leave_out.new.self here c.leave_out.ensures.client ∙ c.loop-place.invariant.1 in
    let x = dropped_at (λ seat. is_other_seat c.args.client c.args.number seat) c.loop-place.turns.items c.args.turns.now.items c.loop-place.place c.index_mut.result.now c.leave_out.new.self
    (omega arith) (omega arith) c.index_mut.ensures.value c.loop-place.invariant.2 c.loop-place.invariant.3 c.leave_out.ensures.seats in
    (same, own, x.0, x.1)

pub returns-clause-apart : goal.returns-clause-apart
returns-clause-apart c = apart_same c.args.turns.now.items c.loop-place.turns.items c.loop-place.invariant.1
