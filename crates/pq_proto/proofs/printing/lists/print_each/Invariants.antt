use Rattle.std.proofs.Common.{length}
use Rattle.pq_proto.proofs.ListSteps.{WalkedTo}
use Rattle.pq_proto.specs.aux.Rests.{left}
use Rattle.pq_proto.proofs.printing.lists.print_each.Given as goal

abbrev pub invariant-statements : goal.invariant-statements
invariant-statements g l = WalkedTo (g.P.Part.made l.part) l.fn.out l.out (left l.body) (left l.rest)

abbrev pub decreases-statements : goal.decreases-statements
decreases-statements g l = length l.rest.nodes
