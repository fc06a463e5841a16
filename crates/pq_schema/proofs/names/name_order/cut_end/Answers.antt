use Rattle.pq_schema.proofs.Pieces.{cut_both, less_first}
use Rattle.pq_schema.proofs.names.name_order.cut_end.Goals as goal

pub returns : goal.returns
returns c =
    let ps = c.args.front in
    let piece = c.args.piece.now in
    let text = c.in_ok-text.text.now in
    let e = c.in_ok-text.ensures.end in
    record {
      order = cut_both ps c.args.others piece c.args.other.now text c.in_ok-text.rest.now e.0 e.1.1.0 e.1.1.1;
      less = less_first ps piece e.0 text e.1.1.0 e.1.0;
    }
