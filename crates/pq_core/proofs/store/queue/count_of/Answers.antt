use Rattle.std.proofs.Common.{arith}
use Rattle.pq_core.proofs.Turned.{turn_within}
use Rattle.pq_core.proofs.store.queue.count_of.Goals as goal

pub overflow_add-total : goal.overflow_add-total
overflow_add-total c =
    let all = c.args.turns.now.ok.0 in
    let one = c.index.result.now.numbers.ok.0 in
    let end = c.len-place-end.ensures in
    let less = c.loop-place-test.true in
    let total = c.loop-place.invariant in
    let within = turn_within c.args.turns.now.items c.loop-place.place c.index.result.now (omega arith) c.index.ensures in
    let len = c.len-total.ensures in
    let bound = c.requires in
    omega arith
