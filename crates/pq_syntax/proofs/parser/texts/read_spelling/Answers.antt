use Rattle.std.proofs.Common.{refl, sym}
use Rattle.pq_syntax.proofs.Spelling.{part_is}
use Rattle.pq_syntax.proofs.parser.texts.read_spelling.Goals as goal

pub returns-then-is_char_boundary-2 : goal.returns-then-is_char_boundary-2
returns-then-is_char_boundary-2 c =
    rw (sym (part_is _ c.args.span _ c.if-start-end.true (c.if-is_char_boundary-2.ensures.test.0 refl).0 c.range.ensures.value c.range.utf8)) c.new.ensures.copy
