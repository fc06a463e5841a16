use Rattle.std.proofs.Common.{sym}
use Rattle.std.specs.Cmp.Lexicographic.{bytes_decides}
use Rattle.pq_schema.proofs.Pieces.{parted}
use Rattle.pq_schema.proofs.names.name_order.before.Goals as goal

pub returns-then-eq : goal.returns-then-eq
returns-then-eq c =
    record {
      before = parted c.in_ok-start.start c.args.text.now c.in_ok-before.before.now c.in_ok-before.after.now c.args.end.now c.in_ok-before.ensures.front c.in_ok-before.ensures.back
          ((bytes_decides c.in_ok-before.after.now c.args.end.now).0 (sym c.if-eq.ensures));
    }
