use Rattle.pq_schema.proofs.SameEnds.{ends_more}
use Rattle.pq_schema.proofs.names.name_order.end_alike.Goals as goal

pub pieces-preserved : goal.pieces-preserved
pieces-preserved c =
    ends_more c.args.count c.pieces.left c.in-Some.rest c.args.a c.args.b c.pieces.a c.pieces.b c.in-Some.first c.in-Some.second c.pieces.invariant c.in-Some.ensures.end
