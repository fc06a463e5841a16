use Rattle.std.proofs.Common.{sym, ◌∙◌}
use Rattle.pq_syntax.proofs.Steps.{token_first, fails_here}
use Rattle.pq_syntax.proofs.parser.tokens.expect.Goals as goal

pub returns-then-looks_at-clause-taken : goal.returns-then-looks_at-clause-taken
returns-then-looks_at-clause-taken c = token_first _ _ _ _ (sym c.looks_at.ensures ∙ c.if-looks_at.true)

pub returns-else-looks_at-clause-fault : goal.returns-else-looks_at-clause-fault
returns-else-looks_at-clause-fault c = fails_here _ _ _ (sym c.looks_at.ensures ∙ c.if-looks_at.false)
