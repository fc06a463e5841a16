use Rattle.std.proofs.Common.{ℕ, List, [], ◌∷◌, ◌++◌, ap, ◌∙◌}
use Rattle.std.specs.Prelude.{codes}
use Rattle.json.specs.Token.{Token, begin_object, end_object, key, string}
use Rattle.pq_proto.specs.Settings.{options_data}
use Rattle.pq_proto.specs.Reserved.{integer, integer_data}
use Rattle.pq_proto.specs.aux.Printed.{tokens_of}
use Rattle.pq_proto.proofs.ListSteps.{chain}
use Rattle.pq_proto.proofs.descriptor.enums.print_value.Goals as goal

pub returns : goal.returns
returns c =
    let steps : List (List Token × List Token) =
    (begin_object ∷ [], c.begin_object.new.self)
    ∷ (key (codes "name") ∷ string c.args.name.now.text ∷ [], c.text_member.new.self)
    ∷ (key (codes "number") ∷ [], c.key.new.self)
    ∷ (tokens_of (integer_data (integer c.args.number.now)), c.print_integer.new.out)
    ∷ (key (codes "options") ∷ [], c.key-2.new.self)
    ∷ (tokens_of (options_data c.args.options.now), c.print_options.new.out)
    ∷ (end_object ∷ [], c.end_object.new.self)
    ∷ [] in
    chain c.args.out.now steps (
      c.in_ok-begin_object.ensures,
      (
        c.in_ok-text_member.ensures ∙ ap (λ (t : List ℕ). c.begin_object.new.self ++ (key (codes "name") ∷ string t ∷ [])) c.as_str.ensures.same,
        (
          c.in_ok-key.ensures,
          (
            c.in_ok-print_integer.ensures,
            (c.in_ok-key-2.ensures, (c.in_ok-print_options.ensures, (c.in_ok-end_object.ensures, tt))),
          ),
        ),
      ),
    )
