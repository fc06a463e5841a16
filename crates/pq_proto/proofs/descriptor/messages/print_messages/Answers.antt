use Rattle.std.proofs.Common.{append_assoc}
use Rattle.pq_proto.specs.Descriptor.{messages_in}
use Rattle.pq_proto.specs.aux.Rests.{left}
use Rattle.pq_proto.proofs.ListSteps.{list_tokens}
use Rattle.pq_proto.proofs.descriptor.messages.print_messages.Goals as goal

pub returns : goal.returns
returns c = rw (c.in_ok-end_array.ensures, c.in_ok-print_each_message.ensures, c.in_ok-begin_array.ensures, list_tokens (messages_in c.args.references.now (left c.args.body.now) c.args.scope.now)) (simp append_assoc)
