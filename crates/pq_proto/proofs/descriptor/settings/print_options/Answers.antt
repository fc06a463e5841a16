use Rattle.std.proofs.Common.{append_assoc}
use Rattle.std.specs.Prelude.{map}
use Rattle.pq_proto.specs.Settings.{option_data}
use Rattle.pq_proto.proofs.ListSteps.{list_tokens}
use Rattle.pq_proto.proofs.descriptor.settings.print_options.Goals as goal

pub returns : goal.returns
returns c = rw (c.in_ok-end_array.ensures, c.in_ok-print_each.ensures, c.in_ok-begin_array.ensures, list_tokens (map option_data c.args.settings.now)) (simp append_assoc)
