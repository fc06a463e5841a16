use Rattle.std.proofs.Common.{arith}
use Rattle.pq_core.specs.aux.Queue.{is_of_other}
use Rattle.pq_core.specs.aux.Turns.{seats_of}
use Rattle.pq_core.proofs.Queued.{few_filter}
use Rattle.pq_core.proofs.store.queue.Queue.drop_client.Goals as goal

pub count_of-self-inside-requires : goal.count_of-self-inside-requires
count_of-self-inside-requires c =
    let few = few_filter (λ seat. is_of_other c.args.client seat) (seats_of c.self.inside.turns.items) in
    let counted = c.self.invariant.counted in
    rw c.drop_turns.ensures.seats (omega arith)
