use Rattle.std.proofs.Common.{List, [], ◌∷◌, false}
use Rattle.std.specs.Prelude.{codes}
use Rattle.json.specs.Token.{Token, begin_object, begin_array, key, string, boolean}
use Rattle.pq_proto.specs.Lists.{list_data}
use Rattle.pq_proto.specs.Descriptor.{enums_in, fields_in}
use Rattle.pq_proto.specs.aux.Printed.{tokens_of}
use Rattle.pq_proto.specs.aux.Rests.{left}
use Rattle.pq_proto.proofs.ListSteps.{chain}
use Rattle.pq_proto.proofs.descriptor.messages.print_front.Goals as goal

pub returns : goal.returns
returns c =
    let steps : List (List Token × List Token) =
    (begin_object ∷ [], c.begin_object.new.self)
    ∷ (key (codes "enums") ∷ [], c.key.new.self)
    ∷ (tokens_of (list_data (enums_in c.args.full.now (left c.args.body.now))), c.print_enums.new.out)
    ∷ (key (codes "fields") ∷ [], c.key-2.new.self)
    ∷ (tokens_of (list_data (fields_in c.args.references.now c.args.full.now (left c.args.body.now))), c.print_fields.new.out)
    ∷ (key (codes "fullName") ∷ string c.args.full.now ∷ [], c.text_member.new.self)
    ∷ (key (codes "mapEntry") ∷ boolean false ∷ [], c.boolean_member.new.self)
    ∷ (key (codes "messages") ∷ [], c.key-3.new.self)
    ∷ (begin_array ∷ [], c.begin_array.new.self)
    ∷ [] in
    chain c.args.out.now steps (
      c.in_ok-begin_object.ensures,
      (
        c.in_ok-key.ensures,
        (
          c.in_ok-print_enums.ensures,
          (
            c.in_ok-key-2.ensures,
            (
              c.in_ok-print_fields.ensures,
              (
                c.in_ok-text_member.ensures,
                (
                  c.in_ok-boolean_member.ensures,
                  (
                    c.in_ok-key-3.ensures,
                    (c.in_ok-begin_array.ensures, tt),
                  ),
                ),
              ),
            ),
          ),
        ),
      ),
    )
