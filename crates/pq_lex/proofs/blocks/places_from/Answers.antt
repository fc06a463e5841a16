use Rattle.std.proofs.Common.{◌-◌, subst, arith}
use Rattle.pq_lex.specs.aux.Blocks.{line_units, text_of}
use Rattle.pq_lex.specs.aux.LineMarks.{IsByte}
use Rattle.pq_lex.specs.aux.LineSearch.{IsLine}
use Rattle.pq_lex.proofs.BlockWalks.{on_row, places_in_order}
use Rattle.pq_lex.proofs.LineSearch.{bad_last}
use Rattle.pq_lex.proofs.blocks.places_from.Goals as goal

pub returns-then-start-end-2 : goal.returns-then-start-end-2
returns-then-start-end-2 c = (
  c.place_on-from.ensures.place,
  c.place_on-from.ensures.place,
  record {
    first = on_row (text_of c.args.blocks.now) c.args.start c.args.line.offset c.place_on-from.result.offset c.requires.line c.place_on-from.ensures.after c.place_on-from.ensures.byte;
    last = on_row (text_of c.args.blocks.now) c.args.end c.args.line.offset c.place_on-from.result.offset
        (subst (λ n. IsLine (text_of c.args.blocks.now) n c.args.line.offset) c.if-start-end.true c.requires.line)
        c.place_on-from.ensures.after
        (subst (λ n. IsByte (line_units (text_of c.args.blocks.now) c.args.line.offset) n (c.place_on-from.result.offset - c.args.line.offset)) c.if-start-end-2.true c.place_on-from.ensures.byte);
    ordered = omega arith;
  },
)

pub returns-then-start-end : goal.returns-then-start-end
returns-then-start-end c =
    places_in_order c.args.blocks.now c.args.start c.args.end c.place_on-from.result c.place_on.result c.in_order.result c.place_on-from.ensures.place c.place_on.ensures.place
    (on_row (text_of c.args.blocks.now) c.args.start c.args.line.offset c.place_on-from.result.offset c.requires.line c.place_on-from.ensures.after c.place_on-from.ensures.byte)
    (on_row (text_of c.args.blocks.now) c.args.end c.args.line.offset c.place_on.result.offset (subst (λ n. IsLine (text_of c.args.blocks.now) n c.args.line.offset) c.if-start-end.true c.requires.line) c.place_on.ensures.after c.place_on.ensures.byte)
    c.in_order.ensures

pub returns-in-Some : goal.returns-in-Some
returns-in-Some c =
    places_in_order c.args.blocks.now c.args.start c.args.end c.place_on-from.result c.place_on-in-Some.result c.in_order-in-Some.result c.place_on-from.ensures.place c.place_on-in-Some.ensures.place
    (on_row (text_of c.args.blocks.now) c.args.start c.args.line.offset c.place_on-from.result.offset c.requires.line c.place_on-from.ensures.after c.place_on-from.ensures.byte)
    (on_row (text_of c.args.blocks.now) c.args.end c.in-Some.last.offset c.place_on-in-Some.result.offset (c.in-Some.ensures {u = tt}).1 c.place_on-in-Some.ensures.after c.place_on-in-Some.ensures.byte)
    c.in_order-in-Some.ensures

pub returns-in-None : goal.returns-in-None
returns-in-None c new = bad_last (text_of c.args.blocks.now) c.args.start c.args.end new (c.in-None.ensures {u = tt})
