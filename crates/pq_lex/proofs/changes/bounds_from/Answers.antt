use Rattle.pq_lex.proofs.LineSearch.{bad_last, bad_order, on_line}
use Rattle.pq_lex.proofs.changes.bounds_from.Goals as goal

pub returns-then-to-from : goal.returns-then-to-from
returns-then-to-from c new =
    bad_order c.args.bytes.now c.args.start c.args.end c.offset_on-from.result c.offset_on-to.result new
    (on_line c.args.bytes.now c.args.start c.args.first c.offset_on-from.result c.requires c.offset_on-from.ensures)
    (on_line c.args.bytes.now c.args.end c.in-Some.last c.offset_on-to.result (c.in-Some.ensures {u = tt}) c.offset_on-to.ensures)
    c.if-to-from.true

pub returns-else-to-from : goal.returns-else-to-from
returns-else-to-from c = record {
  first = on_line c.args.bytes.now c.args.start c.args.first c.offset_on-from.result c.requires c.offset_on-from.ensures;
  last = on_line c.args.bytes.now c.args.end c.in-Some.last c.offset_on-to.result (c.in-Some.ensures {u = tt}) c.offset_on-to.ensures;
  ordered = c.if-to-from.false;
}

pub returns-in-None : goal.returns-in-None
returns-in-None c new = bad_last c.args.bytes.now c.args.start c.args.end new (c.in-None.ensures {u = tt})
