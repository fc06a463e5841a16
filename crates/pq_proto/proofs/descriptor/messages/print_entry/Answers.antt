use Rattle.std.proofs.Common.{List, [], ◌∷◌, true}
use Rattle.std.specs.Prelude.{codes}
use Rattle.json.specs.Token.{Token, begin_object, end_object, begin_array, end_array, key, string, boolean}
use Rattle.pq_proto.specs.Lists.{list_data}
use Rattle.pq_proto.specs.Descriptor.{entry_field}
use Rattle.pq_proto.specs.aux.Printed.{tokens_of}
use Rattle.pq_proto.specs.aux.Views.{type_of}
use Rattle.pq_proto.proofs.ListSteps.{chain}
use Rattle.pq_proto.proofs.descriptor.messages.print_entry.Goals as goal

pub returns : goal.returns
returns c =
    let steps : List (List Token × List Token) =
    (begin_object ∷ [], c.begin_object.new.self)
    ∷ (key (codes "enums") ∷ begin_array ∷ end_array ∷ [], c.empty_member.new.self)
    ∷ (key (codes "fields") ∷ [], c.key.new.self)
    ∷ (tokens_of (list_data (entry_field (codes "key") 1 (type_of c.args.key.now) ∷ entry_field (codes "value") 2 (type_of c.args.value.now) ∷ [])), c.print_entry_fields.new.out)
    ∷ (key (codes "fullName") ∷ string c.args.full.now ∷ [], c.text_member.new.self)
    ∷ (key (codes "mapEntry") ∷ boolean true ∷ [], c.boolean_member.new.self)
    ∷ (key (codes "messages") ∷ begin_array ∷ end_array ∷ [], c.empty_member-2.new.self)
    ∷ (key (codes "name") ∷ string c.args.name.now ∷ [], c.text_member-2.new.self)
    ∷ (key (codes "oneofs") ∷ begin_array ∷ end_array ∷ [], c.empty_member-3.new.self)
    ∷ (key (codes "options") ∷ begin_array ∷ end_array ∷ [], c.empty_member-4.new.self)
    ∷ (key (codes "reservedNames") ∷ begin_array ∷ end_array ∷ [], c.empty_member-5.new.self)
    ∷ (key (codes "reservedRanges") ∷ begin_array ∷ end_array ∷ [], c.empty_member-6.new.self)
    ∷ (end_object ∷ [], c.end_object.new.self)
    ∷ [] in
    chain c.args.out.now steps (
      c.in_ok-begin_object.ensures,
      (
        c.in_ok-empty_member.ensures,
        (
          c.in_ok-key.ensures,
          (
            c.in_ok-print_entry_fields.ensures,
            (
              c.in_ok-text_member.ensures,
              (
                c.in_ok-boolean_member.ensures,
                (
                  c.in_ok-empty_member-2.ensures,
                  (
                    c.in_ok-text_member-2.ensures,
                    (
                      c.in_ok-empty_member-3.ensures,
                      (
                        c.in_ok-empty_member-4.ensures,
                        (
                          c.in_ok-empty_member-5.ensures,
                          (
                            c.in_ok-empty_member-6.ensures,
                            (c.in_ok-end_object.ensures, tt),
                          ),
                        ),
                      ),
                    ),
                  ),
                ),
              ),
            ),
          ),
        ),
      ),
    )
