use Rattle.std.proofs.Common.{sym, ◌∙◌, arith}
use Rattle.pq_syntax.proofs.parser.messages.looks_at_message.Goals as goal

pub returns-then-levels-eq0-clause-yes : goal.returns-then-levels-eq0-clause-yes
returns-then-levels-eq0-clause-yes c = λ e. absurd (cc)

pub returns-then-levels-eq0-clause-no : goal.returns-then-levels-eq0-clause-no
returns-then-levels-eq0-clause-no c = λ e some. absurd (omega (arith, c.if-levels-eq0.true, some))

pub returns-clause-yes : goal.returns-clause-yes
returns-clause-yes c = λ e. (omega (arith, c.if-levels-eq0.false), sym c.looks_at.ensures ∙ e)

pub returns-clause-no : goal.returns-clause-no
returns-clause-no c = λ e some. sym c.looks_at.ensures ∙ e
