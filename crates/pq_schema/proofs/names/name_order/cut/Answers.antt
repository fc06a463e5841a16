use Rattle.std.proofs.Common.{[], refl}
use Rattle.pq_schema.proofs.Pieces.{cut_both, less_first, less_second}
use Rattle.pq_schema.proofs.names.name_order.cut.Goals as goal

pub returns-in-Some : goal.returns-in-Some
returns-in-Some c =
    let piece = c.args.piece.now in
    let other = c.args.other.now in
    record {
      order = cut_both c.args.front c.args.others piece other c.in-Some.text.now [] other c.in-Some.ensures.before refl;
      less = less_first c.args.front piece other c.in-Some.text.now c.in-Some.ensures.before c.requires.some.1;
    }

pub returns-in-Some-before : goal.returns-in-Some-before
returns-in-Some-before c =
    let piece = c.args.piece.now in
    let other = c.args.other.now in
    record {
      order = cut_both c.args.front c.args.others piece other [] c.in-Some-before.text.now piece refl c.in-Some-before.ensures.before;
      less = less_second c.args.front piece c.requires.some.0;
    }
