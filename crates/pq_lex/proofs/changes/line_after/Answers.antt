use Rattle.std.proofs.Common.{◌≡◌, ◌+◌, ◌<◌, length, ap, subst, ◌∙◌, arith}
use Rattle.pq_lex.specs.Lines.{end_of_line, line_len, line_number}
use Rattle.pq_lex.proofs.Counts.{range_from}
use Rattle.pq_lex.proofs.LineFacts.{end_within}
use Rattle.pq_lex.proofs.LineSearch.{all_passed, at_end, none_found, none_passed, one_passed}
use Rattle.pq_lex.proofs.changes.line_after.Goals as goal

pub loop-init : goal.loop-init
loop-init c = none_passed c.args.bytes.now c.skip_blocks-at.result.0 c.skip_blocks-at.ensures.within

pub overflow_add-end : goal.overflow_add-end
overflow_add-end c =
    let e = c.line_len.ensures.is ∙ ap line_len (range_from c.args.bytes.now c.loop.start) in
    let within = c.loop.invariant.here.within in
    omega (arith, e, end_within c.args.bytes.now c.loop.start within)

pub returns-then-end-bytes : goal.returns-then-end-bytes
returns-then-end-bytes c =
    let e = c.line_len.ensures.is ∙ ap line_len (range_from c.args.bytes.now c.loop.start) in
    none_found c.args.bytes.now (line_number c.args.bytes.now c.skip_blocks-at.result.0 + c.loop.counter) c.loop.start (line_number c.args.bytes.now c.args.from + c.args.count) c.loop.invariant.here (omega (arith, e, c.if-end-bytes.true)) (omega (arith, c.loop-test.true, c.skip_blocks-at.ensures.number))

pub next_start-start-requires : goal.next_start-start-requires
next_start-start-requires c =
    let e = c.line_len.ensures.is ∙ ap line_len (range_from c.args.bytes.now c.loop.start) in
    let within = c.loop.invariant.here.within in
    omega (arith, e, end_within c.args.bytes.now c.loop.start within, c.if-end-bytes.false)

pub loop-preserved : goal.loop-preserved
loop-preserved c =
    let e = c.line_len.ensures.is ∙ ap line_len (range_from c.args.bytes.now c.loop.start) in
    let within = c.loop.invariant.here.within in
    let less : end_of_line c.args.bytes.now c.loop.start < length c.args.bytes.now = omega (arith, e, end_within c.args.bytes.now c.loop.start within, c.if-end-bytes.false) in
    one_passed c.args.bytes.now c.skip_blocks-at.result.0 c.loop.counter c.loop.start c.next_start-start.result c.loop.invariant less c.next_start-start.ensures.within (subst (λ k. c.next_start-start.result ≡ at_end c.args.bytes.now (c.loop.start + k)) e c.next_start-start.ensures.is)

pub returns : goal.returns
returns c =
    all_passed c.args.bytes.now c.args.from c.args.count c.skip_blocks-at.result.0 c.skip_blocks-at.result.1 c.loop.counter c.loop.start c.requires.starts c.skip_blocks-at.ensures.number c.skip_blocks-at.ensures.same c.loop-test.false (omega arith) c.loop.invariant
