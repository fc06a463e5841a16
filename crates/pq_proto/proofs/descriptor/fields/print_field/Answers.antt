use Rattle.std.proofs.Common.{List, [], ◌∷◌}
use Rattle.std.specs.Prelude.{codes, decimal, option_copied}
use Rattle.json.specs.Token.{Token, begin_object, end_object, key, string, number, boolean}
use Rattle.pq_proto.specs.Settings.{options_data}
use Rattle.pq_proto.specs.Reserved.{integer, integer_data}
use Rattle.pq_proto.specs.Types.{text_or_null}
use Rattle.pq_proto.specs.aux.Printed.{tokens_of}
use Rattle.pq_proto.specs.aux.Views.{type_of}
use Rattle.pq_proto.proofs.ListSteps.{chain}
use Rattle.pq_proto.proofs.descriptor.fields.print_field.Goals as goal

pub returns : goal.returns
returns c =
    let steps : List (List Token × List Token) =
    (begin_object ∷ [], c.begin_object.new.self)
    ∷ (key (codes "label") ∷ number (decimal c.args.field.now.label) ∷ [], c.unsigned_member.new.self)
    ∷ (key (codes "name") ∷ string c.args.field.now.name.now ∷ [], c.text_member.new.self)
    ∷ (key (codes "number") ∷ [], c.key.new.self)
    ∷ (tokens_of (integer_data (integer c.args.field.now.number)), c.print_integer.new.out)
    ∷ (key (codes "oneof") ∷ tokens_of (text_or_null (option_copied c.args.field.now.oneof)), c.print_oneof.new.out)
    ∷ (key (codes "optional") ∷ boolean c.args.field.now.is_optional ∷ [], c.boolean_member.new.self)
    ∷ (key (codes "options") ∷ [], c.key-2.new.self)
    ∷ (tokens_of (options_data c.args.field.now.options.now), c.print_options.new.out)
    ∷ (key (codes "type") ∷ number (decimal c.args.kind.now.number) ∷ [], c.unsigned_member-2.new.self)
    ∷ (key (codes "typeName") ∷ tokens_of (text_or_null (type_of c.args.kind.now).name), c.print_type_name.new.out)
    ∷ (end_object ∷ [], c.end_object.new.self)
    ∷ [] in
    chain c.args.out.now steps (
      c.in_ok-begin_object.ensures,
      (
        c.in_ok-unsigned_member.ensures,
        (
          c.in_ok-text_member.ensures,
          (
            c.in_ok-key.ensures,
            (
              c.in_ok-print_integer.ensures,
              (
                c.in_ok-print_oneof.ensures,
                (
                  c.in_ok-boolean_member.ensures,
                  (
                    c.in_ok-key-2.ensures,
                    (c.in_ok-print_options.ensures, (c.in_ok-unsigned_member-2.ensures, (c.in_ok-print_type_name.ensures, (c.in_ok-end_object.ensures, tt)))),
                  ),
                ),
              ),
            ),
          ),
        ),
      ),
    )
