use Rattle.std.proofs.Common.{List, [], ◌∷◌}
use Rattle.std.specs.Prelude.{codes}
use Rattle.json.specs.Token.{Token, begin_object, end_object, key}
use Rattle.pq_proto.specs.Ranges.{position_data}
use Rattle.pq_proto.specs.aux.Printed.{tokens_of}
use Rattle.pq_proto.proofs.ListSteps.{chain}
use Rattle.pq_proto.proofs.printing.ranges.print_range.Goals as goal

pub returns : goal.returns
returns c =
    let steps : List (List Token × List Token) =
    (begin_object ∷ [], c.begin_object.new.self)
    ∷ (key (codes "end") ∷ [], c.key.new.self)
    ∷ (tokens_of (position_data c.args.end), c.print_position.new.out)
    ∷ (key (codes "start") ∷ [], c.key-2.new.self)
    ∷ (tokens_of (position_data c.args.start), c.print_position-2.new.out)
    ∷ (end_object ∷ [], c.end_object.new.self)
    ∷ [] in
    chain c.args.out.now steps (
      c.in_ok-begin_object.ensures,
      (
        c.in_ok-key.ensures,
        (
          c.in_ok-print_position.ensures,
          (
            c.in_ok-key-2.ensures,
            (c.in_ok-print_position-2.ensures, (c.in_ok-end_object.ensures, tt)),
          ),
        ),
      ),
    )
