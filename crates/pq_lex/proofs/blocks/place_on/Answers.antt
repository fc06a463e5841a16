use Rattle.std.proofs.Common.{◌≡◌, ◌+◌, ◌-◌, drop, length, map, slice_range, take, ◌∙◌, ap, subst, arith, length-drop, length-take}
use Rattle.std.proofs.lemmas.List.{length-map}
use Rattle.pq_lex.specs.Lines.{line_len, units, units_of}
use Rattle.pq_lex.specs.aux.Blocks.{line_units, text_of}
use Rattle.pq_lex.specs.aux.LineMarks.{IsByte}
use Rattle.pq_lex.proofs.BlockWalks.{after_len, at_block, byte_beyond, byte_ends, byte_inside, front, front_le}
use Rattle.pq_lex.proofs.Counts.{range_from}
use Rattle.pq_lex.proofs.blocks.place_on.Goals as goal

pub overflow_add-result : goal.overflow_add-result
overflow_add-result c =
    let a = at_block c.args.blocks.now c.args.line.index c.index-blocks-line.result c.requires.blocks.followed c.requires.place.within c.index-blocks-line.is in
    let here = after_len c.args.blocks.now c.args.line.index c.index-blocks-line.result a in
    let within = front_le c.args.blocks.now (c.args.line.index + 1) in
    let at = c.requires.place.at in
    let low = c.requires.place.low in
    let high = c.requires.place.high in
    let small = c.requires.blocks.small in
    let e : slice_range c.bytes-bytes.result.now (c.args.line.offset - c.args.line.start) (length c.bytes-bytes.result.now) ≡ drop (c.args.line.offset - c.args.line.start) c.index-blocks-line.result.bytes = range_from c.bytes-bytes.result.now (c.args.line.offset - c.args.line.start) ∙ ap (drop (c.args.line.offset - c.args.line.start)) c.bytes-bytes.ensures in
    let byte = c.byte_of_column.ensures.within in
    let len = length-map (take c.line_len-len.result (slice_range c.bytes-bytes.result.now (c.args.line.offset - c.args.line.start) (length c.bytes-bytes.result.now))) units_of in
    let part = length-take c.line_len-len.result (slice_range c.bytes-bytes.result.now (c.args.line.offset - c.args.line.start) (length c.bytes-bytes.result.now)) in
    omega (arith, here, within, at, low, high, small, byte, len, part, ap length e, length-drop (c.args.line.offset - c.args.line.start) c.index-blocks-line.result.bytes)

pub returns-then-len-rest-clause-byte : goal.returns-then-len-rest-clause-byte
returns-then-len-rest-clause-byte c =
    let a = at_block c.args.blocks.now c.args.line.index c.index-blocks-line.result c.requires.blocks.followed c.requires.place.within c.index-blocks-line.is in
    let e : slice_range c.bytes-bytes.result.now (c.args.line.offset - c.args.line.start) (length c.bytes-bytes.result.now) ≡ drop (c.args.line.offset - c.args.line.start) c.index-blocks-line.result.bytes = range_from c.bytes-bytes.result.now (c.args.line.offset - c.args.line.start) ∙ ap (drop (c.args.line.offset - c.args.line.start)) c.bytes-bytes.ensures in
    let len : c.line_len-len.result ≡ line_len (drop (c.args.line.offset - c.args.line.start) c.index-blocks-line.result.bytes) = c.line_len-len.ensures.is ∙ ap line_len e in
    subst (IsByte (line_units (text_of c.args.blocks.now) c.args.line.offset) c.args.column) (let q : c.byte_of_column.result ≡ c.args.line.offset + c.byte_of_column.result - c.args.line.offset = omega arith in q)
    (byte_ends c.args.blocks.now c.args.line.index c.index-blocks-line.result a c.args.line.start c.args.line.offset c.requires.place.at c.requires.place.low c.requires.place.high c.args.column c.byte_of_column.result
    (omega (arith, len, c.if-len-rest.true, ap length e))
    (subst (λ n. IsByte (map units_of (take n (drop (c.args.line.offset - c.args.line.start) c.index-blocks-line.result.bytes))) c.args.column c.byte_of_column.result) len
    (subst (λ t. IsByte (map units_of (take c.line_len-len.result t)) c.args.column c.byte_of_column.result) e c.byte_of_column.ensures)))

pub overflow_add-result-then-column-width : goal.overflow_add-result-then-column-width
overflow_add-result-then-column-width c =
    let a = at_block c.args.blocks.now c.args.line.index c.index-blocks-line.result c.requires.blocks.followed c.requires.place.within c.index-blocks-line.is in
    let here = after_len c.args.blocks.now c.args.line.index c.index-blocks-line.result a in
    let within = front_le c.args.blocks.now (c.args.line.index + 1) in
    let at = c.requires.place.at in
    let low = c.requires.place.low in
    let high = c.requires.place.high in
    let small = c.requires.blocks.small in
    let e : slice_range c.bytes-bytes.result.now (c.args.line.offset - c.args.line.start) (length c.bytes-bytes.result.now) ≡ drop (c.args.line.offset - c.args.line.start) c.index-blocks-line.result.bytes = range_from c.bytes-bytes.result.now (c.args.line.offset - c.args.line.start) ∙ ap (drop (c.args.line.offset - c.args.line.start)) c.bytes-bytes.ensures in
    let byte = c.byte_of_column-then-column-width.ensures.within in
    let len = length-map (slice_range c.bytes-bytes.result.now (c.args.line.offset - c.args.line.start) (length c.bytes-bytes.result.now)) units_of in
    omega (arith, here, within, at, low, high, small, byte, len, ap length e, length-drop (c.args.line.offset - c.args.line.start) c.index-blocks-line.result.bytes)

pub returns-then-column-width-clause-byte : goal.returns-then-column-width-clause-byte
returns-then-column-width-clause-byte c =
    let a = at_block c.args.blocks.now c.args.line.index c.index-blocks-line.result c.requires.blocks.followed c.requires.place.within c.index-blocks-line.is in
    let e : slice_range c.bytes-bytes.result.now (c.args.line.offset - c.args.line.start) (length c.bytes-bytes.result.now) ≡ drop (c.args.line.offset - c.args.line.start) c.index-blocks-line.result.bytes = range_from c.bytes-bytes.result.now (c.args.line.offset - c.args.line.start) ∙ ap (drop (c.args.line.offset - c.args.line.start)) c.bytes-bytes.ensures in
    let len : c.line_len-len.result ≡ line_len (drop (c.args.line.offset - c.args.line.start) c.index-blocks-line.result.bytes) = c.line_len-len.ensures.is ∙ ap line_len e in
    let most = c.line_len-len.ensures.within in
    subst (IsByte (line_units (text_of c.args.blocks.now) c.args.line.offset) c.args.column) (let q : c.byte_of_column-then-column-width.result ≡ c.args.line.offset + c.byte_of_column-then-column-width.result - c.args.line.offset = omega arith in q)
    (byte_inside c.args.blocks.now c.args.line.index c.index-blocks-line.result a c.args.line.start c.args.line.offset c.requires.place.at c.requires.place.low c.requires.place.high c.args.column c.byte_of_column-then-column-width.result
    (omega (arith, len, most, c.if-len-rest.false, ap length e))
    (omega (arith, c.if-column-width.true, c.count_units-width.ensures, ap units e))
    (subst (λ t. IsByte (map units_of t) c.args.column c.byte_of_column-then-column-width.result) e c.byte_of_column-then-column-width.ensures))

pub overflow_add-line-2 : goal.overflow_add-line-2
overflow_add-line-2 c =
    let a = at_block c.args.blocks.now c.args.line.index c.index-blocks-line.result c.requires.blocks.followed c.requires.place.within c.index-blocks-line.is in
    let here = after_len c.args.blocks.now c.args.line.index c.index-blocks-line.result a in
    let within = front_le c.args.blocks.now (c.args.line.index + 1) in
    let at = c.requires.place.at in
    let small = c.requires.blocks.small in
    omega (arith, here, within, at, small, ap length c.bytes-bytes.ensures)

pub column_from-requires-clause-at : goal.column_from-requires-clause-at
column_from-requires-clause-at c =
    let a = at_block c.args.blocks.now c.args.line.index c.index-blocks-line.result c.requires.blocks.followed c.requires.place.within c.index-blocks-line.is in
    let here = after_len c.args.blocks.now c.args.line.index c.index-blocks-line.result a in
    let at = c.requires.place.at in
    omega (arith, here, at, ap length c.bytes-bytes.ensures)

pub returns-clause-byte : goal.returns-clause-byte
returns-clause-byte c =
    let a = at_block c.args.blocks.now c.args.line.index c.index-blocks-line.result c.requires.blocks.followed c.requires.place.within c.index-blocks-line.is in
    let here = after_len c.args.blocks.now c.args.line.index c.index-blocks-line.result a in
    let at = c.requires.place.at in
    let low = c.requires.place.low in
    let high = c.requires.place.high in
    let after = c.column_from.ensures.after in
    let e : slice_range c.bytes-bytes.result.now (c.args.line.offset - c.args.line.start) (length c.bytes-bytes.result.now) ≡ drop (c.args.line.offset - c.args.line.start) c.index-blocks-line.result.bytes = range_from c.bytes-bytes.result.now (c.args.line.offset - c.args.line.start) ∙ ap (drop (c.args.line.offset - c.args.line.start)) c.bytes-bytes.ensures in
    let len : c.line_len-len.result ≡ line_len (drop (c.args.line.offset - c.args.line.start) c.index-blocks-line.result.bytes) = c.line_len-len.ensures.is ∙ ap line_len e in
    let most = c.line_len-len.ensures.within in
    let width : c.count_units-width.result ≡ units (drop (c.args.line.offset - c.args.line.start) c.index-blocks-line.result.bytes) = c.count_units-width.ensures ∙ ap units e in
    let end : c.args.line.start + length c.bytes-bytes.result.now ≡ length (front c.args.blocks.now (c.args.line.index + 1)) = omega (arith, here, at, ap length c.bytes-bytes.ensures) in
    let size = length-drop (c.args.line.offset - c.args.line.start) c.index-blocks-line.result.bytes in
    subst (IsByte (line_units (text_of c.args.blocks.now) c.args.line.offset) c.args.column) (let q : length (drop (c.args.line.offset - c.args.line.start) c.index-blocks-line.result.bytes) + (c.column_from.result.offset - (c.args.line.start + length c.bytes-bytes.result.now)) ≡ c.column_from.result.offset - c.args.line.offset = omega (arith, size, here, at, low, high, after, ap length c.bytes-bytes.ensures) in q)
    (byte_beyond c.args.blocks.now c.args.line.index c.index-blocks-line.result a c.args.line.start c.args.line.offset c.requires.place.at c.requires.place.low c.requires.place.high c.args.column (c.column_from.result.offset - (c.args.line.start + length c.bytes-bytes.result.now))
    (omega (arith, len, most, c.if-len-rest.false, ap length e))
    (omega (arith, c.if-column-width.false, width))
    (subst (λ w. IsByte (line_units (text_of c.args.blocks.now) (length (front c.args.blocks.now (c.args.line.index + 1)))) (c.args.column - w) (c.column_from.result.offset - (c.args.line.start + length c.bytes-bytes.result.now))) width
    (subst (λ s. IsByte (line_units (text_of c.args.blocks.now) s) (c.args.column - c.count_units-width.result) (c.column_from.result.offset - (c.args.line.start + length c.bytes-bytes.result.now))) end c.column_from.ensures.byte)))
