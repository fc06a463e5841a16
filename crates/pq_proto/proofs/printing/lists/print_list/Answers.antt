use Rattle.std.proofs.Common.{append_assoc}
use Rattle.pq_proto.specs.Bodies.{each}
use Rattle.pq_proto.specs.aux.Rests.{left}
use Rattle.pq_proto.proofs.ListSteps.{list_tokens}
use Rattle.pq_proto.proofs.printing.lists.print_list.Goals as goal

pub returns : goal.returns
returns g c = rw (c.in_ok-end_array.ensures, c.in_ok-print_each.ensures, c.in_ok-begin_array.ensures, list_tokens (each (g.P.Part.made c.args.part.now) (left c.args.body.now))) (simp append_assoc)
