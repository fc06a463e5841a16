use Rattle.std.proofs.Common.{◌+◌, ◌-◌, length, map, take, sym, ap, subst, arith, length-take}
use Rattle.std.proofs.lemmas.List.{length-map}
use Rattle.pq_lex.specs.Lines.{line_len, units_of}
use Rattle.pq_lex.specs.aux.Blocks.{line_units, text_of}
use Rattle.pq_lex.specs.aux.LineMarks.{IsByte}
use Rattle.pq_lex.proofs.BlockWalks.{after_len, at_block, column_ends, column_inside, column_on, column_placed, column_walk, column_walk_end, front_le}
use Rattle.pq_lex.proofs.LineLen.{len_within}
use Rattle.pq_lex.proofs.blocks.column_from.Goals as goal

pub walk-init : goal.walk-init
walk-init c = column_walk c.args.blocks.now c.args.at c.args.column c.args.first c.requires.within c.requires.at

pub overflow_add-offset : goal.overflow_add-offset
overflow_add-offset c =
    let a = at_block c.args.blocks.now c.walk.index c.index-blocks-index.result c.requires.blocks.followed c.walk-test.true c.index-blocks-index.is in
    let here = after_len c.args.blocks.now c.walk.index c.index-blocks-index.result a in
    let within = front_le c.args.blocks.now (c.walk.index + 1) in
    let at = c.walk.invariant.at in
    let small = c.requires.blocks.small in
    let byte = c.byte_of_column.ensures.within in
    let len = length-map (take c.head-head.result c.bytes.result.now) units_of in
    let part = length-take c.head-head.result c.bytes.result.now in
    omega (arith, here, within, at, small, byte, len, part, ap length c.bytes.ensures)

pub returns-then-head-len-clause-byte : goal.returns-then-head-len-clause-byte
returns-then-head-len-clause-byte c =
    let a = at_block c.args.blocks.now c.walk.index c.index-blocks-index.result c.requires.blocks.followed c.walk-test.true c.index-blocks-index.is in
    let byte = c.byte_of_column.ensures.within in
    let len = length-map (take c.head-head.result c.bytes.result.now) units_of in
    let part = length-take c.head-head.result c.bytes.result.now in
    let row_byte : IsByte (map units_of (take (line_len c.index-blocks-index.result.bytes) c.index-blocks-index.result.bytes)) c.walk.left c.byte_of_column.result =
    subst (λ n. IsByte (map units_of (take n c.index-blocks-index.result.bytes)) c.walk.left c.byte_of_column.result) c.head-head.ensures
    (subst (λ t. IsByte (map units_of (take c.head-head.result t)) c.walk.left c.byte_of_column.result) c.bytes.ensures c.byte_of_column.ensures) in
    (column_placed c.args.blocks.now c.args.at c.args.column c.walk.index c.walk.start c.walk.left c.index-blocks-index.result a c.walk.invariant c.byte_of_column.result
    (omega (arith, byte, len, part, ap length c.bytes.ensures))
    (column_ends c.args.blocks.now c.args.at c.args.column c.walk.index c.walk.start c.walk.left c.index-blocks-index.result a c.walk.invariant c.byte_of_column.result
    (omega (arith, c.if-head-len.true, c.head-head.ensures, c.len.ensures)) row_byte)).1.1

pub overflow_add-offset-then-left-units : goal.overflow_add-offset-then-left-units
overflow_add-offset-then-left-units c =
    let a = at_block c.args.blocks.now c.walk.index c.index-blocks-index.result c.requires.blocks.followed c.walk-test.true c.index-blocks-index.is in
    let here = after_len c.args.blocks.now c.walk.index c.index-blocks-index.result a in
    let within = front_le c.args.blocks.now (c.walk.index + 1) in
    let at = c.walk.invariant.at in
    let small = c.requires.blocks.small in
    let byte = c.byte_of_column-then-left-units.ensures.within in
    let len = length-map c.bytes-then-left-units.result.now units_of in
    omega (arith, here, within, at, small, byte, len, ap length c.bytes-then-left-units.ensures)

pub returns-then-left-units-clause-byte : goal.returns-then-left-units-clause-byte
returns-then-left-units-clause-byte c =
    let a = at_block c.args.blocks.now c.walk.index c.index-blocks-index.result c.requires.blocks.followed c.walk-test.true c.index-blocks-index.is in
    let byte = c.byte_of_column-then-left-units.ensures.within in
    let len = length-map c.bytes-then-left-units.result.now units_of in
    let most = len_within c.index-blocks-index.result.bytes in
    (column_placed c.args.blocks.now c.args.at c.args.column c.walk.index c.walk.start c.walk.left c.index-blocks-index.result a c.walk.invariant c.byte_of_column-then-left-units.result
    (omega (arith, byte, len, ap length c.bytes-then-left-units.ensures))
    (column_inside c.args.blocks.now c.args.at c.args.column c.walk.index c.walk.start c.walk.left c.index-blocks-index.result a c.walk.invariant c.byte_of_column-then-left-units.result
    (omega (arith, most, c.if-head-len.false, c.head-head.ensures, c.len.ensures))
    (omega (arith, c.if-left-units.true, c.units.ensures))
    (subst (λ t. IsByte (map units_of t) c.walk.left c.byte_of_column-then-left-units.result) c.bytes-then-left-units.ensures c.byte_of_column-then-left-units.ensures))).1.1

pub overflow_add-start : goal.overflow_add-start
overflow_add-start c =
    let a = at_block c.args.blocks.now c.walk.index c.index-blocks-index.result c.requires.blocks.followed c.walk-test.true c.index-blocks-index.is in
    let here = after_len c.args.blocks.now c.walk.index c.index-blocks-index.result a in
    let within = front_le c.args.blocks.now (c.walk.index + 1) in
    let at = c.walk.invariant.at in
    let small = c.requires.blocks.small in
    omega (arith, here, within, at, small, c.len-start.ensures)

pub walk-preserved : goal.walk-preserved
walk-preserved c =
    let a = at_block c.args.blocks.now c.walk.index c.index-blocks-index.result c.requires.blocks.followed c.walk-test.true c.index-blocks-index.is in
    let most = len_within c.index-blocks-index.result.bytes in
    rw (c.len-start.ensures, c.units-left.ensures)
    (column_on c.args.blocks.now c.args.at c.args.column c.walk.index c.walk.start c.walk.left c.index-blocks-index.result a c.walk.invariant
    (omega (arith, most, c.if-head-len.false, c.head-head.ensures, c.len.ensures))
    (omega (arith, c.if-left-units.false, c.units.ensures)))

pub last_place-requires-clause-end : goal.last_place-requires-clause-end
last_place-requires-clause-end c = (column_walk_end c.args.blocks.now c.args.at c.args.column c.walk.index c.walk.start c.walk.left c.walk-test.false c.walk.invariant).0

pub returns-clause-byte : goal.returns-clause-byte
returns-clause-byte c =
    subst (λ o. IsByte (line_units (text_of c.args.blocks.now) c.args.at) c.args.column (o - c.args.at)) (sym c.last_place.ensures.offset)
    (column_walk_end c.args.blocks.now c.args.at c.args.column c.walk.index c.walk.start c.walk.left c.walk-test.false c.walk.invariant).1
