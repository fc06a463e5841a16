use Rattle.std.proofs.Common.{◌+◌, None, Some, length, subst, arith}
use Rattle.pq_lex.specs.Lines.{line_number}
use Rattle.pq_lex.specs.aux.Blocks.{text_of}
use Rattle.pq_lex.specs.aux.LineSearch.{IsLineFound}
use Rattle.pq_lex.proofs.BlockWalks.{at_block, front_le, start_found, start_none}
use Rattle.pq_lex.proofs.LineSearch.{first_found}
use Rattle.pq_lex.proofs.Positions.{number_grows}
use Rattle.pq_lex.proofs.blocks.line_start.Goals as goal

pub line_after-requires-clause-starts : goal.line_after-requires-clause-starts
line_after-requires-clause-starts c = (first_found c.bytes.result.now).starts

pub overflow_add-result : goal.overflow_add-result
overflow_add-result c =
    let f = c.in-Some.ensures {u = tt} in
    let a = at_block c.args.blocks.now c.in-Some.index c.index-blocks-index.result c.requires.followed f.within c.index-blocks-index.is in
    let l = subst (λ t. IsLineFound t (line_number t 0 + c.in-Some.left) (Some c.in-Some-line_after.at)) c.bytes.ensures (c.in-Some-line_after.ensures {u = tt}) in
    let found = (start_found c.args.blocks.now c.args.line c.in-Some.index c.in-Some.start c.in-Some.left c.index-blocks-index.result a f c.in-Some-line_after.at l).0 in
    let high = found.high in
    let small = c.requires.small in
    omega (arith, high, small, front_le c.args.blocks.now (c.in-Some.index + 1))

pub returns-in-Some-line_after : goal.returns-in-Some-line_after
returns-in-Some-line_after c =
    let f = c.in-Some.ensures {u = tt} in
    let a = at_block c.args.blocks.now c.in-Some.index c.index-blocks-index.result c.requires.followed f.within c.index-blocks-index.is in
    let l = subst (λ t. IsLineFound t (line_number t 0 + c.in-Some.left) (Some c.in-Some-line_after.at)) c.bytes.ensures (c.in-Some-line_after.ensures {u = tt}) in
    start_found c.args.blocks.now c.args.line c.in-Some.index c.in-Some.start c.in-Some.left c.index-blocks-index.result a f c.in-Some-line_after.at l

pub returns-in-None-line_after : goal.returns-in-None-line_after
returns-in-None-line_after c o within is =
    let f = c.in-Some.ensures {u = tt} in
    let a = at_block c.args.blocks.now c.in-Some.index c.index-blocks-index.result c.requires.followed f.within c.index-blocks-index.is in
    start_none c.args.blocks.now c.args.line c.in-Some.index c.in-Some.start c.in-Some.left c.index-blocks-index.result a f
    (subst (λ t. IsLineFound t (line_number t 0 + c.in-Some.left) None) c.bytes.ensures (c.in-None-line_after.ensures {u = tt}))

pub returns-in-None : goal.returns-in-None
returns-in-None c o within is =
    let grows = number_grows (text_of c.args.blocks.now) o (length (text_of c.args.blocks.now)) within in
    let more = c.in-None.ensures {u = tt} in
    omega (arith, grows, more, is)
