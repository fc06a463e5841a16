use Rattle.pq_proto.specs.aux.Rests.{left}
use Rattle.pq_proto.proofs.ListSteps.{walked_more, walked_all}
use Rattle.pq_proto.proofs.printing.lists.print_each.Goals as goal

pub statements-preserved : goal.statements-preserved
statements-preserved g c =
    let held = c.in-Some.held in
    walked_more (g.P.Part.made c.args.part.now) c.args.out.now c.statements.out c.print.new.out (left c.args.body.now) (left c.statements.rest) (left held.inside) (left c.next.new.self)
    (record { number = held.number; node = held.node.now }) c.in-Some.ensures.body c.in_ok-print.ensures c.statements.invariant

pub returns : goal.returns
returns g c =
    walked_all (g.P.Part.made c.args.part.now) c.args.out.now c.statements.out (left c.args.body.now) (left c.statements.rest) c.in_default.ensures.body c.statements.invariant
