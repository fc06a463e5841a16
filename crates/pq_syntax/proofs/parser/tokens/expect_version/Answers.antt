use Rattle.std.proofs.Common.{sym, ◌∙◌}
use Rattle.pq_syntax.proofs.Steps.{passes_first, fails_here}
use Rattle.pq_syntax.proofs.parser.tokens.expect_version.Goals as goal

pub returns-then-branch-clause-taken : goal.returns-then-branch-clause-taken
returns-then-branch-clause-taken c = passes_first _ _ _ (sym c.in_ok-looks_at_version.ensures ∙ c.if-branch.true)

pub returns-else-branch-clause-fault : goal.returns-else-branch-clause-fault
returns-else-branch-clause-fault c = fails_here _ _ _ (sym c.in_ok-looks_at_version.ensures ∙ c.if-branch.false)
