use Rattle.std.proofs.Common.{List, ◌++◌, sym, ap, ◌∙◌}
use Rattle.json.specs.Token.{Token}
use Rattle.pq_syntax.specs.declared.parts.Setting.{Setting}
use Rattle.pq_proto.specs.Settings.{option_data}
use Rattle.pq_proto.specs.aux.Printed.{tokens_of}
use Rattle.pq_proto.proofs.ListSteps.{printed_all, values_map}
use Rattle.pq_proto.proofs.descriptor.settings.print_each.Goals as goal

pub returns : goal.returns
returns c =
    printed_all (λ (x : Setting). tokens_of (option_data x)) c.args.out.now c.settings.out c.args.settings.now c.settings.setting-index c.settings-test.false c.settings.invariant
    ∙ ap (λ (ts : List Token). c.args.out.now ++ ts) (sym (values_map (option_data) c.args.settings.now))
