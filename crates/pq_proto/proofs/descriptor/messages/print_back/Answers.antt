use Rattle.std.proofs.Common.{List, [], ◌∷◌}
use Rattle.std.specs.Prelude.{codes, pos}
use Rattle.json.specs.Token.{Token, end_object, end_array, key, string}
use Rattle.pq_proto.specs.Settings.{options_data, settings_in}
use Rattle.pq_proto.specs.Reserved.{names_data, ranges_data}
use Rattle.pq_proto.specs.Descriptor.{oneofs_data}
use Rattle.pq_proto.specs.aux.Printed.{tokens_of}
use Rattle.pq_proto.specs.aux.Rests.{left}
use Rattle.pq_proto.proofs.ListSteps.{chain}
use Rattle.pq_proto.proofs.descriptor.messages.print_back.Goals as goal

pub returns : goal.returns
returns c =
    let steps : List (List Token × List Token) =
    (end_array ∷ [], c.end_array.new.self)
    ∷ (key (codes "name") ∷ string c.args.name.now ∷ [], c.text_member.new.self)
    ∷ (key (codes "oneofs") ∷ [], c.key.new.self)
    ∷ (tokens_of (oneofs_data (left c.args.body.now)), c.print_oneofs.new.out)
    ∷ (key (codes "options") ∷ [], c.key-2.new.self)
    ∷ (tokens_of (options_data (settings_in (left c.args.body.now))), c.print_options_in.new.out)
    ∷ (key (codes "reservedNames") ∷ [], c.key-3.new.self)
    ∷ (tokens_of (names_data (left c.args.body.now)), c.print_names_in.new.out)
    ∷ (key (codes "reservedRanges") ∷ [], c.key-4.new.self)
    ∷ (tokens_of (ranges_data (pos 536870911) (left c.args.body.now)), c.print_ranges_in.new.out)
    ∷ (end_object ∷ [], c.end_object.new.self)
    ∷ [] in
    chain c.args.out.now steps (
      c.in_ok-end_array.ensures,
      (
        c.in_ok-text_member.ensures,
        (
          c.in_ok-key.ensures,
          (
            c.in_ok-print_oneofs.ensures,
            (
              c.in_ok-key-2.ensures,
              (
                c.in_ok-print_options_in.ensures,
                (
                  c.in_ok-key-3.ensures,
                  (
                    c.in_ok-print_names_in.ensures,
                    (c.in_ok-key-4.ensures, (c.in_ok-print_ranges_in.ensures, (c.in_ok-end_object.ensures, tt))),
                  ),
                ),
              ),
            ),
          ),
        ),
      ),
    )
