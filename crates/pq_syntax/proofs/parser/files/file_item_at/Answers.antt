use Rattle.std.proofs.Common.{sym, ◌∙◌}
use Rattle.pq_syntax.proofs.Choices.{by_phrase, by_token, by_word}
use Rattle.pq_syntax.proofs.Openings.{closed, closed_past}
use Rattle.pq_syntax.proofs.parser.files.file_item_at.Goals as goal

pub returns-then-looks_at : goal.returns-then-looks_at
returns-then-looks_at c = λ levels. sym c.looks_at.ensures ∙ c.if-looks_at.true

pub returns-then-looks_at-2 : goal.returns-then-looks_at-2
returns-then-looks_at-2 c = λ levels. sym c.looks_at-2.ensures ∙ c.if-looks_at-2.true

pub returns-then-looks_at-3 : goal.returns-then-looks_at-3
returns-then-looks_at-3 c = λ levels. sym c.looks_at-3.ensures ∙ c.if-looks_at-3.true

pub returns-then-looks_at-4 : goal.returns-then-looks_at-4
returns-then-looks_at-4 c = λ levels. sym c.looks_at-4.ensures ∙ c.if-looks_at-4.true

pub returns-then-looks_at-5 : goal.returns-then-looks_at-5
returns-then-looks_at-5 c = λ levels. sym c.looks_at-5.ensures ∙ c.if-looks_at-5.true

pub returns-then-looks_at-6 : goal.returns-then-looks_at-6
returns-then-looks_at-6 c = λ levels. sym c.looks_at-6.ensures ∙ c.if-looks_at-6.true

pub returns-then-looks_at-7 : goal.returns-then-looks_at-7
returns-then-looks_at-7 c = λ levels. sym c.looks_at-7.ensures ∙ c.if-looks_at-7.true

pub returns-then-looks_at-8 : goal.returns-then-looks_at-8
returns-then-looks_at-8 c = λ levels. sym c.looks_at-8.ensures ∙ c.if-looks_at-8.true

pub returns : goal.returns
returns c = λ levels.
    closed_past by_word (sym c.looks_at.ensures ∙ c.if-looks_at.false)
    (closed_past by_word (sym c.looks_at-2.ensures ∙ c.if-looks_at-2.false)
    (closed_past by_word (sym c.looks_at-3.ensures ∙ c.if-looks_at-3.false)
    (closed_past by_phrase (sym c.looks_at-4.ensures ∙ c.if-looks_at-4.false)
    (closed_past by_phrase (sym c.looks_at-5.ensures ∙ c.if-looks_at-5.false)
    (closed_past by_phrase (sym c.looks_at-6.ensures ∙ c.if-looks_at-6.false)
    (closed_past by_word (sym c.looks_at-7.ensures ∙ c.if-looks_at-7.false)
    (closed by_token (sym c.looks_at-8.ensures ∙ c.if-looks_at-8.false))))))))
