use Rattle.std.proofs.Common.{List, [], ◌∷◌}
use Rattle.std.specs.Prelude.{codes}
use Rattle.json.specs.Token.{Token, begin_object, end_object, key, string}
use Rattle.pq_syntax.specs.Places.{Item}
use Rattle.pq_proto.specs.Bodies.{Body, each}
use Rattle.pq_proto.specs.Lists.{list_data}
use Rattle.pq_proto.specs.Settings.{options_data, settings_in}
use Rattle.pq_proto.specs.Descriptor.{enums_in, import_by, messages_in, services_in}
use Rattle.pq_proto.specs.aux.Printed.{tokens_of}
use Rattle.pq_proto.specs.aux.Rests.{left}
use Rattle.pq_proto.proofs.ListSteps.{chain}
use Rattle.pq_proto.proofs.descriptor.print_file.Goals as goal

pub returns : goal.returns
returns c =
    let steps : List (List Token × List Token) =
    (begin_object ∷ [], c.begin_object.new.self)
    ∷ (key (codes "enums") ∷ [], c.key.new.self)
    ∷ (tokens_of (list_data (enums_in c.args.package_name.now (left c.args.body.now))), c.print_enums.new.out)
    ∷ (key (codes "imports") ∷ [], c.key-2.new.self)
    ∷ (tokens_of (list_data (each (λ (i : Item) (inside : Body). import_by i.node.statement) (left c.args.body.now))), c.print_list.new.out)
    ∷ (key (codes "messages") ∷ [], c.key-3.new.self)
    ∷ (tokens_of (list_data (messages_in c.args.references.now (left c.args.body.now) c.args.package_name.now)), c.print_messages.new.out)
    ∷ (key (codes "name") ∷ string c.args.file.now ∷ [], c.text_member.new.self)
    ∷ (key (codes "options") ∷ [], c.key-4.new.self)
    ∷ (tokens_of (options_data (settings_in (left c.args.body.now))), c.print_options_in.new.out)
    ∷ (key (codes "package") ∷ string c.args.package_name.now ∷ [], c.text_member-2.new.self)
    ∷ (key (codes "services") ∷ [], c.key-5.new.self)
    ∷ (tokens_of (list_data (services_in c.args.references.now c.args.package_name.now (left c.args.body.now))), c.print_services.new.out)
    ∷ (end_object ∷ [], c.end_object.new.self)
    ∷ [] in
    chain c.args.out.now steps (
      c.in_ok-begin_object.ensures,
      (
        c.in_ok-key.ensures,
        (
          c.in_ok-print_enums.ensures,
          (
            c.in_ok-key-2.ensures,
            (
              c.in_ok-print_list.ensures,
              (
                c.in_ok-key-3.ensures,
                (
                  c.in_ok-print_messages.ensures,
                  (
                    c.in_ok-text_member.ensures,
                    (
                      c.in_ok-key-4.ensures,
                      (
                        c.in_ok-print_options_in.ensures,
                        (
                          c.in_ok-text_member-2.ensures,
                          (
                            c.in_ok-key-5.ensures,
                            (c.in_ok-print_services.ensures, (c.in_ok-end_object.ensures, tt)),
                          ),
                        ),
                      ),
                    ),
                  ),
                ),
              ),
            ),
          ),
        ),
      ),
    )
