use Rattle.std.proofs.Common.{refl}
use Rattle.pq_schema.proofs.Pieces.{order_greater, order_less}
use Rattle.pq_schema.proofs.names.name_order.step.Goals as goal

pub returns-in-None-last_b-clause-order : goal.returns-in-None-last_b-clause-order
returns-in-None-last_b-clause-order c =
    order_greater c.args.a.now c.args.b.now c.in-Some.front c.in-Some.piece.now (c.in-None-last_b.ensures.end refl) c.in-Some.ensures.pieces c.in-Some.ensures.some

pub returns-in-Some-last_b-2-clause-order : goal.returns-in-Some-last_b-2-clause-order
returns-in-Some-last_b-2-clause-order c =
    order_less c.args.a.now c.args.b.now c.in-Some-last_b-2.field-0.0 c.in-Some-last_b-2.field-0.1.now (c.in-None.ensures.end refl) c.in-Some-last_b-2.ensures.pieces c.in-Some-last_b-2.ensures.some
