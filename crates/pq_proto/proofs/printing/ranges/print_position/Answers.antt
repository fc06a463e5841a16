use Rattle.std.proofs.Common.{List, [], ◌∷◌}
use Rattle.std.specs.Prelude.{codes, decimal}
use Rattle.json.specs.Token.{Token, begin_object, end_object, key, number}
use Rattle.pq_proto.proofs.ListSteps.{chain}
use Rattle.pq_proto.proofs.printing.ranges.print_position.Goals as goal

pub returns : goal.returns
returns c =
    let steps : List (List Token × List Token) =
    (begin_object ∷ [], c.begin_object.new.self)
    ∷ (key (codes "character") ∷ number (decimal c.args.position.character) ∷ [], c.unsigned_member.new.self)
    ∷ (key (codes "line") ∷ number (decimal c.args.position.line) ∷ [], c.unsigned_member-2.new.self)
    ∷ (end_object ∷ [], c.end_object.new.self)
    ∷ [] in
    chain c.args.out.now steps
    (c.in_ok-begin_object.ensures, (c.in_ok-unsigned_member.ensures, (c.in_ok-unsigned_member-2.ensures, (c.in_ok-end_object.ensures, tt))))
