use Rattle.std.proofs.Common.{List, [], ◌∷◌}
use Rattle.std.specs.Prelude.{codes}
use Rattle.json.specs.Token.{Token, begin_object, end_object, key, string, boolean}
use Rattle.pq_proto.specs.Settings.{options_data, settings_in}
use Rattle.pq_proto.specs.Types.{text_or_null}
use Rattle.pq_proto.specs.aux.Printed.{tokens_of}
use Rattle.pq_proto.specs.aux.Rests.{left}
use Rattle.pq_proto.specs.aux.Views.{type_of}
use Rattle.pq_proto.proofs.ListSteps.{chain}
use Rattle.pq_proto.proofs.descriptor.services.print_method.Goals as goal

pub returns : goal.returns
returns c =
    let steps : List (List Token × List Token) =
    (begin_object ∷ [], c.begin_object.new.self)
    ∷ (key (codes "clientStreaming") ∷ boolean c.args.method.now.is_client ∷ [], c.boolean_member.new.self)
    ∷ (key (codes "input") ∷ tokens_of (text_or_null (type_of c.args.method.now.input).name), c.print_type_name.new.out)
    ∷ (key (codes "name") ∷ string c.args.method.now.name.now ∷ [], c.text_member.new.self)
    ∷ (key (codes "options") ∷ [], c.key.new.self)
    ∷ (tokens_of (options_data (settings_in (left c.args.body.now))), c.print_options_in.new.out)
    ∷ (key (codes "output") ∷ tokens_of (text_or_null (type_of c.args.method.now.output).name), c.print_type_name-2.new.out)
    ∷ (key (codes "serverStreaming") ∷ boolean c.args.method.now.is_server ∷ [], c.boolean_member-2.new.self)
    ∷ (end_object ∷ [], c.end_object.new.self)
    ∷ [] in
    chain c.args.out.now steps (
      c.in_ok-begin_object.ensures,
      (
        c.in_ok-boolean_member.ensures,
        (
          c.in_ok-print_type_name.ensures,
          (
            c.in_ok-text_member.ensures,
            (
              c.in_ok-key.ensures,
              (
                c.in_ok-print_options_in.ensures,
                (
                  c.in_ok-print_type_name-2.ensures,
                  (
                    c.in_ok-boolean_member-2.ensures,
                    (c.in_ok-end_object.ensures, tt),
                  ),
                ),
              ),
            ),
          ),
        ),
      ),
    )
