use Rattle.std.proofs.Common.{map, sym, subst}
use Rattle.std.specs.Bool.{MatchBool}
use Rattle.std.specs.Str.{IsAscii, IsNotAscii}
use Rattle.pq_lex.specs.Lines.{units_of}
use Rattle.pq_lex.specs.aux.LineMarks.{IsByte}
use Rattle.pq_lex.proofs.BlockLemmas.{byte_after}
use Rattle.pq_lex.proofs.Columns.{ascii_byte, plain_is}
use Rattle.pq_lex.proofs.Counts.{range_from}
use Rattle.pq_lex.proofs.changes.byte_of_column.Goals as goal

pub returns-then-is_ascii : goal.returns-then-is_ascii
returns-then-is_ascii c =
    let plain = subst (λ b. MatchBool b (IsAscii c.args.line.now) (IsNotAscii c.args.line.now)) c.if-is_ascii.true c.is_ascii.ensures.cases in
    subst (IsByte (map units_of c.args.line.now) c.args.column) (sym c.min.ensures) (ascii_byte c.args.line.now c.args.column (plain_is c.args.line.now plain))

pub returns : goal.returns
returns c =
    byte_after c.args.line.now c.args.column c.skip_parts-at.result.0 c.skip_parts-at.result.1 c.scanned_byte.result c.skip_parts-at.ensures.within c.skip_parts-at.ensures.column
    (subst (λ t. IsByte (map units_of t) c.skip_parts-at.result.1 c.scanned_byte.result) (range_from c.args.line.now c.skip_parts-at.result.0) c.scanned_byte.ensures)
