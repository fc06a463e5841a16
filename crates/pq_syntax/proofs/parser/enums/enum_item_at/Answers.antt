use Rattle.std.proofs.Common.{sym, ◌∙◌}
use Rattle.pq_syntax.proofs.Choices.{by_token, by_word}
use Rattle.pq_syntax.proofs.Openings.{closed, closed_past}
use Rattle.pq_syntax.proofs.parser.enums.enum_item_at.Goals as goal

pub returns-then-looks_at : goal.returns-then-looks_at
returns-then-looks_at c = sym c.looks_at.ensures ∙ c.if-looks_at.true

pub returns-then-looks_at-2 : goal.returns-then-looks_at-2
returns-then-looks_at-2 c = sym c.looks_at-2.ensures ∙ c.if-looks_at-2.true

pub returns-then-looks_at-3 : goal.returns-then-looks_at-3
returns-then-looks_at-3 c = sym c.looks_at-3.ensures ∙ c.if-looks_at-3.true

pub returns-then-looks_at-4 : goal.returns-then-looks_at-4
returns-then-looks_at-4 c = sym c.looks_at-4.ensures ∙ c.if-looks_at-4.true

pub returns : goal.returns
returns c =
    closed_past by_word (sym c.looks_at.ensures ∙ c.if-looks_at.false)
    (closed_past by_word (sym c.looks_at-2.ensures ∙ c.if-looks_at-2.false)
    (closed_past by_word (sym c.looks_at-3.ensures ∙ c.if-looks_at-3.false)
    (closed by_token (sym c.looks_at-4.ensures ∙ c.if-looks_at-4.false))))
