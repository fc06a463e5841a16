use Rattle.std.proofs.Common.{◌≡◌, ◌-◌, drop, length, map, take, slice_range, refl, ◌∙◌, ap, subst, arith}
use Rattle.pq_lex.specs.Lines.{end_of_line, line_len, line_number, units_of}
use Rattle.pq_lex.specs.aux.LineMarks.{IsByte}
use Rattle.pq_lex.proofs.Counts.{range_from}
use Rattle.pq_lex.proofs.Indexed.{offset_is}
use Rattle.pq_lex.proofs.changes.offset_on.Goals as goal

pub returns : goal.returns
returns c =
    let len = c.line_len-len.ensures.is ∙ ap line_len (range_from c.args.bytes.now c.args.start) in
    let row : take c.line_len-len.result (slice_range c.args.bytes.now c.args.start (length c.args.bytes.now)) ≡ slice_range c.args.bytes.now c.args.start (end_of_line c.args.bytes.now c.args.start) =
    ap (take c.line_len-len.result) (range_from c.args.bytes.now c.args.start)
    ∙ ap (λ n. take n (drop c.args.start c.args.bytes.now)) (let e : c.line_len-len.result ≡ end_of_line c.args.bytes.now c.args.start - c.args.start = omega (arith, len) in e) in
    offset_is c.args.bytes.now c.args.start c.requires.within c.requires.starts (record { line = line_number c.args.bytes.now c.args.start; character = c.args.column }) c.byte_of_column.result refl
    (subst (λ r. IsByte (map units_of r) c.args.column c.byte_of_column.result) row c.byte_of_column.ensures)
