use Rattle.std.proofs.Common.{List, [], ◌∷◌}
use Rattle.std.specs.Prelude.{codes}
use Rattle.json.specs.Token.{Token, begin_object, end_object, key, string}
use Rattle.pq_proto.specs.Lists.{list_data}
use Rattle.pq_proto.specs.Settings.{options_data, settings_in}
use Rattle.pq_proto.specs.Descriptor.{methods_in}
use Rattle.pq_proto.specs.aux.Printed.{tokens_of}
use Rattle.pq_proto.specs.aux.Rests.{left}
use Rattle.pq_proto.proofs.ListSteps.{chain}
use Rattle.pq_proto.proofs.descriptor.services.print_service.Goals as goal

pub returns : goal.returns
returns c =
    let steps : List (List Token × List Token) =
    (begin_object ∷ [], c.begin_object.new.self)
    ∷ (key (codes "fullName") ∷ string c.args.full.now ∷ [], c.text_member.new.self)
    ∷ (key (codes "methods") ∷ [], c.key.new.self)
    ∷ (tokens_of (list_data (methods_in c.args.references.now (left c.args.body.now))), c.print_list.new.out)
    ∷ (key (codes "name") ∷ string c.args.name.now ∷ [], c.text_member-2.new.self)
    ∷ (key (codes "options") ∷ [], c.key-2.new.self)
    ∷ (tokens_of (options_data (settings_in (left c.args.body.now))), c.print_options_in.new.out)
    ∷ (end_object ∷ [], c.end_object.new.self)
    ∷ [] in
    chain c.args.out.now steps (
      c.in_ok-begin_object.ensures,
      (
        c.in_ok-text_member.ensures,
        (
          c.in_ok-key.ensures,
          (
            c.in_ok-print_list.ensures,
            (c.in_ok-text_member-2.ensures, (c.in_ok-key-2.ensures, (c.in_ok-print_options_in.ensures, (c.in_ok-end_object.ensures, tt)))),
          ),
        ),
      ),
    )
