use Rattle.std.proofs.Common.{sym, ◌∙◌}
use Rattle.pq_syntax.proofs.Choices.{by_token, by_type, by_word}
use Rattle.pq_syntax.proofs.Openings.{closed, closed_past}
use Rattle.pq_syntax.proofs.parser.oneofs.oneof_item_at.Goals as goal

pub returns-then-looks_at : goal.returns-then-looks_at
returns-then-looks_at c = sym c.looks_at.ensures ∙ c.if-looks_at.true

pub returns-then-looks_at_type : goal.returns-then-looks_at_type
returns-then-looks_at_type c = sym c.looks_at_type.ensures ∙ c.if-looks_at_type.true

pub returns-then-looks_at-2 : goal.returns-then-looks_at-2
returns-then-looks_at-2 c = sym c.looks_at-2.ensures ∙ c.if-looks_at-2.true

pub returns : goal.returns
returns c =
    closed_past by_word (sym c.looks_at.ensures ∙ c.if-looks_at.false)
    (closed_past by_type (sym c.looks_at_type.ensures ∙ c.if-looks_at_type.false)
    (closed by_token (sym c.looks_at-2.ensures ∙ c.if-looks_at-2.false)))
