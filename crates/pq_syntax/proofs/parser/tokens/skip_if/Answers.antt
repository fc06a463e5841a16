use Rattle.std.proofs.Common.{sym, ◌∙◌}
use Rattle.pq_syntax.proofs.Steps.{passes_absent, passes_present}
use Rattle.pq_syntax.proofs.parser.tokens.skip_if.Goals as goal

pub returns-then-looks_at : goal.returns-then-looks_at
returns-then-looks_at c = passes_present _ _ _ (sym c.looks_at.ensures ∙ c.if-looks_at.true)

pub returns-else-looks_at : goal.returns-else-looks_at
returns-else-looks_at c = passes_absent _ _ _ (sym c.looks_at.ensures ∙ c.if-looks_at.false)
