use Rattle.std.proofs.Common.{◌+◌, ◌*◌, length}
use Rattle.pq_proto.specs.Bodies.{Body}
use Rattle.pq_proto.specs.Descriptor.{messages_in}
use Rattle.pq_proto.specs.aux.Rests.{left}
use Rattle.pq_proto.proofs.ListSteps.{LeftTo}
use Rattle.pq_proto.proofs.descriptor.messages.+messages.Given as goal

abbrev pub decreases-print_each_message : goal.decreases-print_each_message
decreases-print_each_message l = 3 * length l.body.now.nodes

abbrev pub decreases-print_message : goal.decreases-print_message
decreases-print_message l = 3 * length l.body.now.nodes + 1

abbrev pub decreases-print_message_at : goal.decreases-print_message_at
decreases-print_message_at l = 3 * length l.held.now.inside.nodes + 2

abbrev pub invariant-print_each_message-statements : goal.invariant-print_each_message-statements
invariant-print_each_message-statements l =
    LeftTo (λ (b : Body). messages_in l.references b l.scope) l.fn.out l.out (left l.body) (left l.rest) (length l.rest.nodes) (length l.body.nodes)

abbrev pub decreases-print_each_message-statements : goal.decreases-print_each_message-statements
decreases-print_each_message-statements l = length l.rest.nodes
