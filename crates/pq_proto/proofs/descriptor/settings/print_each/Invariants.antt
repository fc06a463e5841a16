use Rattle.pq_syntax.specs.declared.parts.Setting.{Setting}
use Rattle.pq_proto.specs.Settings.{option_data}
use Rattle.pq_proto.specs.aux.Printed.{tokens_of}
use Rattle.pq_proto.proofs.ListSteps.{PrintedTo}
use Rattle.pq_proto.proofs.descriptor.settings.print_each.Given as goal

abbrev pub invariant-settings : goal.invariant-settings
invariant-settings l =
    PrintedTo (λ (s : Setting). tokens_of (option_data s)) l.fn.out l.out l.settings l.setting-index
