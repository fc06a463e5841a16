use Rattle.std.proofs.Common.{◌+◌, arith}
use Rattle.pq_lex.proofs.BlockWalks.{after_len, at_block, front_le, line_walk, line_walk_end, line_walk_found, line_walk_on}
use Rattle.pq_lex.proofs.blocks.block_of_line.Goals as goal

pub walk-init : goal.walk-init
walk-init c = line_walk c.args.blocks.now c.args.line

pub returns-then-left-lines : goal.returns-then-left-lines
returns-then-left-lines c =
    let a = at_block c.args.blocks.now c.walk.index c.index-blocks-index.result c.requires.followed c.walk-test.true c.index-blocks-index.is in
    line_walk_found c.args.blocks.now c.args.line c.walk.index c.walk.start c.walk.left c.index-blocks-index.result a c.walk.invariant (omega (arith, c.if-left-lines.true, c.lines.ensures))

pub overflow_add-start : goal.overflow_add-start
overflow_add-start c =
    let a = at_block c.args.blocks.now c.walk.index c.index-blocks-index.result c.requires.followed c.walk-test.true c.index-blocks-index.is in
    let here = after_len c.args.blocks.now c.walk.index c.index-blocks-index.result a in
    let within = front_le c.args.blocks.now (c.walk.index + 1) in
    let at = c.walk.invariant.at in
    let small = c.requires.small in
    omega (arith, here, within, at, small, c.len-start.ensures)

pub walk-preserved : goal.walk-preserved
walk-preserved c =
    let a = at_block c.args.blocks.now c.walk.index c.index-blocks-index.result c.requires.followed c.walk-test.true c.index-blocks-index.is in
    rw (c.len-start.ensures, c.lines-left.ensures)
    (line_walk_on c.args.blocks.now c.args.line c.walk.index c.walk.start c.walk.left c.index-blocks-index.result a c.walk.invariant (omega (arith, c.if-left-lines.false, c.lines.ensures)))

pub returns : goal.returns
returns c = line_walk_end c.args.blocks.now c.args.line c.walk.index c.walk.start c.walk.left c.requires.some c.walk-test.false c.walk.invariant
