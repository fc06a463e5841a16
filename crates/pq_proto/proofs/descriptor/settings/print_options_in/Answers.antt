use Rattle.std.proofs.Common.{List, ◌++◌, sym, ap, ◌∙◌}
use Rattle.std.proofs.lemmas.Result.{on_ok_weaker}
use Rattle.json.specs.Token.{Token}
use Rattle.serde_json.specs.Data.{Data}
use Rattle.pq_syntax.specs.Places.{Item}
use Rattle.pq_proto.specs.Bodies.{Body}
use Rattle.pq_proto.specs.Lists.{list_data}
use Rattle.pq_proto.specs.Settings.{option_data, setting_of}
use Rattle.pq_proto.specs.aux.Printed.{tokens_of}
use Rattle.pq_proto.specs.aux.Rests.{left}
use Rattle.pq_proto.proofs.ListSteps.{map_each}
use Rattle.pq_proto.proofs.descriptor.settings.print_options_in.Goals as goal

pub returns : goal.returns
returns c =
    let old : List Token = c.args.out.now in
    let same = map_each option_data (λ (i : Item) (b : Body). setting_of i.node.statement) (left c.args.body.now) in
    on_ok_weaker c.print_list.result (λ e. e ∙ ap (λ (ds : List Data). old ++ tokens_of (list_data ds)) (sym same)) c.print_list.ensures
