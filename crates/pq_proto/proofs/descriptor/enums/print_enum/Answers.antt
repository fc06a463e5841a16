use Rattle.std.proofs.Common.{List, [], ◌∷◌}
use Rattle.std.specs.Prelude.{codes, pos}
use Rattle.json.specs.Token.{Token, begin_object, end_object, key, string}
use Rattle.pq_syntax.specs.Places.{Item}
use Rattle.pq_proto.specs.Bodies.{Body, each}
use Rattle.pq_proto.specs.Lists.{list_data}
use Rattle.pq_proto.specs.Settings.{options_data, settings_in}
use Rattle.pq_proto.specs.Reserved.{names_data, ranges_data}
use Rattle.pq_proto.specs.Descriptor.{value_by}
use Rattle.pq_proto.specs.aux.Printed.{tokens_of}
use Rattle.pq_proto.specs.aux.Rests.{left}
use Rattle.pq_proto.proofs.ListSteps.{chain}
use Rattle.pq_proto.proofs.descriptor.enums.print_enum.Goals as goal

pub returns : goal.returns
returns c =
    let steps : List (List Token × List Token) =
    (begin_object ∷ [], c.begin_object.new.self)
    ∷ (key (codes "fullName") ∷ string c.args.full.now ∷ [], c.text_member.new.self)
    ∷ (key (codes "name") ∷ string c.args.name.now ∷ [], c.text_member-2.new.self)
    ∷ (key (codes "options") ∷ [], c.key.new.self)
    ∷ (tokens_of (options_data (settings_in (left c.args.body.now))), c.print_options_in.new.out)
    ∷ (key (codes "reservedNames") ∷ [], c.key-2.new.self)
    ∷ (tokens_of (names_data (left c.args.body.now)), c.print_names_in.new.out)
    ∷ (key (codes "reservedRanges") ∷ [], c.key-3.new.self)
    ∷ (tokens_of (ranges_data (pos 2147483647) (left c.args.body.now)), c.print_ranges_in.new.out)
    ∷ (key (codes "values") ∷ [], c.key-4.new.self)
    ∷ (tokens_of (list_data (each (λ (i : Item) (inside : Body). value_by i.node.statement) (left c.args.body.now))), c.print_list.new.out)
    ∷ (end_object ∷ [], c.end_object.new.self)
    ∷ [] in
    chain c.args.out.now steps (
      c.in_ok-begin_object.ensures,
      (
        c.in_ok-text_member.ensures,
        (
          c.in_ok-text_member-2.ensures,
          (
            c.in_ok-key.ensures,
            (
              c.in_ok-print_options_in.ensures,
              (
                c.in_ok-key-2.ensures,
                (
                  c.in_ok-print_names_in.ensures,
                  (
                    c.in_ok-key-3.ensures,
                    (c.in_ok-print_ranges_in.ensures, (c.in_ok-key-4.ensures, (c.in_ok-print_list.ensures, (c.in_ok-end_object.ensures, tt)))),
                  ),
                ),
              ),
            ),
          ),
        ),
      ),
    )
