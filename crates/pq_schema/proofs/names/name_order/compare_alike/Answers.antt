use Rattle.pq_schema.proofs.Alike.{order_same}
use Rattle.pq_schema.proofs.names.name_order.compare_alike.Goals as goal

pub returns-then-are_same_after : goal.returns-then-are_same_after
returns-then-are_same_after c =
    record { order = order_same c.args.a.now c.args.b.now (c.are_same_after.ensures.same c.if-are_same_after.true) }
