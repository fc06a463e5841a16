use Rattle.std.proofs.Common.{◌∙◌}
use Rattle.pq_syntax.proofs.Bounds.{sign_read, sign_unread}
use Rattle.pq_syntax.proofs.parser.reserved.looks_at_sign.Goals as goal

pub returns-then-signs : goal.returns-then-signs
returns-then-signs c = c.looks_at.ensures ∙ sign_read _ _ _ c.if-signs.true

pub returns-else-signs : goal.returns-else-signs
returns-else-signs c = c.if-signs.false ∙ sign_unread _ _ _ c.if-signs.false
